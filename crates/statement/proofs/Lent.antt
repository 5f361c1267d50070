-- How the code comes to a plan's deadlines, line by line, and to where an entry is counted. Assumes nothing.
use mathlib.Core.Path.{◌≡◌, refl, ◌∙◌}
use mathlib.Core.Bool.{true, false}
use mathlib.Core.List.{List}
use Prim.Native.Nat.{ℕ, ◌+◌, ◌-◌, ◌≤◌, ◌<◌}
use native.Mathlib.Decide.{dec_lt}
use native.Mathlib.Omega.{arith}
use lib.Dec.{eqb}
use lib.ListN.{length, set, length-set}
use borrow.Author.Tests.{ltb-true, lt-ltb, le-ltb}
use Rattle.std.proofs.Common.{Ok, Err}
use Rattle.lists.specs.Places.{nth}
use Rattle.lists.specs.Search.{first_from}
use Rattle.plan.specs.declared.Columns.{Columns}
use Rattle.plan.specs.declared.Plan.{Plan}
use Rattle.plan.specs.Records.{guest_at}
use Rattle.plan.specs.Ranges.{most_guests, most_tasks, longest}
use Rattle.plan.specs.Order.{plan_refusal}
use Rattle.plan.specs.Place.{place_of, has_number, has_guest, has_task}
use Rattle.arrays.specs.Place.{place_at}
use Rattle.logblock.specs.declared.Entry.{Entry}
use Rattle.statement.specs.Lines.{most_lines}
use Rattle.statement.specs.Counting.{line_of, deadline_for}
use Rattle.statement.specs.Lent.{DeadlinesTo, DeadlinesOf, PlanColumns, EntryIn, aim_of}
use Rattle.plan.proofs.RangesLaws.{within_says}
use Rattle.plan.proofs.Order.{PlanIn, plan_in}
use Rattle.plan.proofs.Place.{place_is}
use Rattle.arrays.proofs.Place.{row_grown, row_stands}

-- ---- the deadlines
module _ (deadline : List ℕ) (k : ℕ) (before : List ℕ) where
  -- No task of the guest is there yet.
  pub row_none : length before ≡ most_lines → DeadlinesTo deadline k 0 before before
  row_none L = record { there = λ t h. absurd (omega arith); kept = λ m h. refl; long = L }

  -- One task more.
  pub row_next :
      {n : ℕ} {after : List ℕ}
      → place_at k n < most_lines
      → DeadlinesTo deadline k n before after
      → DeadlinesTo deadline k (n + 1) before (set after (place_at k n) (nth deadline n))
  row_next {n} {after} h R = record {
    there = row_grown k (nth deadline) after n (nth deadline n) (rw R.long h) refl R.there;
    kept = λ m l. row_stands k after n (nth deadline n) m l ∙ R.kept m l;
    long = length-set after (place_at k n) (nth deadline n) ∙ R.long;
  }

module _ (p : Plan) where
  -- No guest's deadlines are there yet.
  pub rows_none : (l : List ℕ) → length l ≡ most_lines → DeadlinesOf p 0 l
  rows_none l L = record { long = L; at = λ k t h m. absurd (omega arith) }

  -- One guest more: the lines of those before it stand, since a guest has at most 16 tasks.
  pub rows_next :
      (n : ℕ) {before after : List ℕ}
      → ((k : ℕ) → k < n → (guest_at p.guests k).tasks ≤ most_tasks)
      → DeadlinesOf p n before
      → DeadlinesTo (guest_at p.guests n).deadline n (guest_at p.guests n).tasks before after
      → DeadlinesOf p (n + 1) after
  rows_next n few H R = record {
    long = R.long;
    at = λ k t h l.
        elim (dec_lt k n) [
          | yes q ↦ R.kept (place_at k t) (omega (arith, few k q)) ∙ H.at k t q l
          | no q ↦ let z : k ≡ n = omega arith in rw z (R.there t (rw z at l))
        ];
  }

-- ---- where an entry is counted
module _ {p : Plan} {c : Columns} {deadlines : List ℕ} (C : PlanColumns p c deadlines) where
  abbrev order : PlanIn p
  order = plan_in p C.passes

  -- There are at most 8 guests, of at most 16 tasks each.
  pub few_guests : p.count ≤ most_guests
  few_guests = order.few

  pub few_tasks : (k : ℕ) → k < p.count → nth c.tasks k ≤ most_tasks
  few_tasks k h =
      omega (arith, C.guests.tasks.holds k (omega (arith, order.few)), (order.guests k h).head.few)

  module _ (e : Entry) {k : ℕ} (found : k ≡ first_from (λ j. eqb (nth c.ids j) e.guest) p.count 0) where
    place_found : k ≡ place_of p e.guest
    place_found = found ∙ place_is p c.ids e.guest order.few C.guests.ids

    -- No guest of the plan has the id.
    pub aim_no_guest : p.count ≤ k → Err 7 ≡ aim_of p e
    unfolding has_guest
    aim_no_guest h = rw (le-ltb (place_of p e.guest) p.count (omega (arith, place_found))) refl

    module _ (h : k < p.count) where
      there : has_guest p e.guest ≡ true
      unfolding has_guest
      there = lt-ltb (place_of p e.guest) p.count (omega (arith, place_found))

      number_here : has_task p e.guest e.task ≡ has_number (nth c.tasks k) e.task
      unfolding has_task
      number_here = rw (← place_found, C.guests.tasks.holds k (omega (arith, few_guests))) refl

      -- The guest has no such task.
      pub aim_no_task : has_number (nth c.tasks k) e.task ≡ false → Err 8 ≡ aim_of p e
      aim_no_task q = rw (there, number_here, q) refl

      -- The guest has the task.
      pub aim_line : has_number (nth c.tasks k) e.task ≡ true → Ok (place_at k (e.task - 1)) ≡ aim_of p e
      aim_line q = rw (there, number_here, q, ← place_found) refl

-- An entry that names a task of the plan is counted at the task's line.
module _ (p : Plan) (e : Entry) where
  line_in :
      (plan_refusal p).number ≡ 0
      → has_guest p e.guest ≡ true
      → has_task p e.guest e.task ≡ true
      → line_of p e < most_lines
  unfolding has_guest has_task
  line_in passes g t =
      let P = plan_in p passes in
      let k = place_of p e.guest in
      let inside : k < p.count = ltb-true k p.count g in
      let w = within_says 1 (guest_at p.guests k).tasks e.task t in
      omega (arith, P.few, (P.guests k inside).head.few)

  -- The line and the deadline are in their ranges, in a plan in order.
  pub entry_in_lem :
      (plan_refusal p).number ≡ 0
      → has_guest p e.guest ≡ true
      → has_task p e.guest e.task ≡ true
      → (1 ≤ e.age) × (e.age ≤ longest)
      → EntryIn p e
  unfolding has_guest has_task
  entry_in_lem passes g t a =
      let P = plan_in p passes in
      let k = place_of p e.guest in
      let inside : k < p.count = ltb-true k p.count g in
      let G = P.guests k inside in
      let w = within_says 1 (guest_at p.guests k).tasks e.task t in
      let T = G.tasks (e.task - 1) (omega arith) in
      record { line = line_in passes g t; due = (T.due, omega (arith, T.in_time, T.short)); age = a }

-- The deadline that is lent at the line is the task's.
pub deadline_there :
    {p : Plan} {c : Columns} {deadlines : List ℕ}
    → PlanColumns p c deadlines
    → (e : Entry)
    → has_guest p e.guest ≡ true
    → has_task p e.guest e.task ≡ true
    → nth deadlines (line_of p e) ≡ deadline_for p e
unfolding has_guest has_task
deadline_there {p} C e g t =
    let k = place_of p e.guest in
    let w = within_says 1 (guest_at p.guests k).tasks e.task t in
    C.due.at k (e.task - 1) (ltb-true k p.count g) (omega arith)
