-- The lines of a plan's tasks: each has one of its own, below 128, by the records' order. Assumes nothing.
use mathlib.Core.Path.{◌≡◌, sym, ap, ◌∙◌}
use mathlib.Core.Bool.{true}
use Prim.Native.Nat.{ℕ, ◌-◌, ◌≤◌, ◌<◌}
use native.Mathlib.Omega.{arith}
use lib.Dec.{eqb}
use borrow.Author.Tests.{ltb-true, eqb-true}
use Rattle.plan.specs.declared.Plan.{Plan}
use Rattle.plan.specs.Ranges.{longest}
use Rattle.plan.specs.Records.{guest_at}
use Rattle.plan.specs.Place.{place_of, has_guest, has_task}
use Rattle.history.specs.Named.{guest_by, deadline_by}
use Rattle.statement.specs.Lines.{most_lines}
use Rattle.statement_laws.specs.LineSays.{task_line}
use Rattle.lists.proofs.Search.{first_found}
use Rattle.plan.proofs.Order.{PlanIn}
use Rattle.plan.proofs.RangesLaws.{within_says}

-- A guest of the plan stands at one of its places, and has the id there.
pub guest_there : (p : Plan) (guest : ℕ) → has_guest p guest ≡ true
    → (place_of p guest < p.count) × ((guest_by p guest).id ≡ guest)
unfolding has_guest place_of
guest_there p guest e =
    let l = ltb-true (place_of p guest) p.count e in (
      l,
      eqb-true _ _ (first_found (λ k. eqb (guest_at p.guests k).id guest) p.count 0 (omega arith)),
    )

-- Guests at one place have one id.
pub guest_one : (p : Plan) (guest other : ℕ) → has_guest p guest ≡ true → has_guest p other ≡ true
    → place_of p guest ≡ place_of p other → guest ≡ other
guest_one p guest other g o e =
    sym (guest_there p guest g).1 ∙ ap (λ (k : ℕ). (guest_at p.guests k).id) e ∙ (guest_there p other o).1

module _ (p : Plan) (P : PlanIn p) (guest task : ℕ) (g : has_guest p guest ≡ true)
    (t : has_task p guest task ≡ true) where
  -- A task has a number from 1 to at most 16.
  pub task_there : (1 ≤ task) × (task ≤ 16)
  unfolding has_task
  task_there =
      let w = within_says 1 (guest_by p guest).tasks task t in
      (w.0, omega (arith, w.1, (P.guests (place_of p guest) (guest_there p guest g).0).head.few))

  -- Its line is one of the 128.
  pub line_below : task_line p guest task < most_lines
  line_below = omega (arith, task_there, (guest_there p guest g).0, P.few)

  -- Its deadline is from 1 to 1,000,000.
  pub deadline_in : (1 ≤ deadline_by p guest task) × (deadline_by p guest task ≤ longest)
  unfolding has_task
  deadline_in =
      let w = within_says 1 (guest_by p guest).tasks task t in
      let i = (P.guests (place_of p guest) (guest_there p guest g).0).tasks (task - 1) (omega arith) in
      (i.due, omega (arith, i.in_time, i.short))

-- Tasks of one line are one task.
pub line_one : (p : Plan) → PlanIn p → (guest task other number : ℕ)
    → has_guest p guest ≡ true → has_task p guest task ≡ true
    → has_guest p other ≡ true → has_task p other number ≡ true
    → task_line p guest task ≡ task_line p other number
    → (guest ≡ other) × (task ≡ number)
line_one p P guest task other number g t o n e =
    let a = task_there p P guest task g t in
    let b = task_there p P other number o n in
    let places : place_of p guest ≡ place_of p other = omega arith in
    (guest_one p guest other g o places, omega arith)
