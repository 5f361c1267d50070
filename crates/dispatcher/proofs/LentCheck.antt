-- How the check over lent arrays comes to refusal 14's test. Assumes nothing.
use mathlib.Core.Path.{◌≡◌, refl, ap, sym, ◌∙◌}
use mathlib.Core.Bool.{Bool, true, false, ◌&&◌, and_assoc}
use mathlib.Core.List.{[]}
use Prim.Native.Nat.{ℕ, ◌≤◌, ◌<◌}
use native.Mathlib.Decide.{dec_le, dec_lt}
use native.Mathlib.Omega.{arith}
use lib.Dec.{leb}
use borrow.Author.Tests.{lt-ltb, le-ltb, le-leb, lt-leb, eq-eqb}
use Rattle.lists.specs.Places.{nth}
use Rattle.lists.specs.All.{all_to}
use Rattle.plan.specs.declared.Refusal.{Refusal}
use Rattle.plan.specs.Ranges.{tasks_ok}
use Rattle.plan.specs.First.{refused}
use Rattle.plan.specs.Server.{is_periodic}
use Rattle.plan.specs.Order.{new_id, number_of, guest_number, plan_refusal}
use Rattle.plan.specs.Periodic.{start_refusal}
use Rattle.arrays.specs.Ranges.{server_ok, no_server}
use Rattle.plan.specs.declared.Columns.{Columns}
use Rattle.std.specs.Prelude.{Option, Some, None}
use Rattle.refusals.specs.Rows.{job_in, blank_at, guest_is_ok, row_is_blank}
use Rattle.refusals.specs.Check.{goes, past_ok, passes, Examined}
use Rattle.dispatcher.specs.declared.Dispatcher.{Dispatcher}
use Rattle.dispatcher.specs.State.{guest_in}
use Rattle.dispatcher.specs.Valid.{tasks_in, guest_in_range, task_in_range, row_ok, state_ok}
use Rattle.dispatcher.specs.LentCheck.{Examines}
use Rattle.lists.proofs.All.{and_left, and_right, and_true, and_false_left, and_false_right, all_by, all_at, all_ext}
use Rattle.lists.proofs.Refusals.{passed}
use Rattle.plan.proofs.First.{none_refused, first_fine}
use Rattle.plan.proofs.Order.{none, counted, count_out}
use Rattle.plan.proofs.PeriodicLaws.{records_refused, starts_by, starts_in_order, starts_periodic, periodic_at, periodic_by}
use Rattle.dispatcher.proofs.Valid.{ok_start, ok_row}
use Rattle.plan.specs.Ranges as ranges

-- whether guest k of a state goes
abbrev guest_goes : Dispatcher → ℕ → Bool
guest_goes d = goes d.plan d.left d.position d.rest d.wait d.age

module _ (d : Dispatcher) (k : ℕ) where
  -- The test of a task, or of a place past the tasks of a guest, is the definition's.
  task_is :
      k < d.plan.count
      → (t : ℕ)
      → job_in d.rest d.wait d.age (guest_in d k).run (guest_in d k).every (guest_in d k).charge k (guest_in d k).tasks t ≡ task_in_range d k t
  unfolding task_in_range tasks_in
  task_is h t = rw (lt-ltb k d.plan.count h) refl

  -- A guest's test is the definition's.
  server_is : k < d.plan.count → server_ok (guest_in d k).capacity (guest_in d k).period (nth d.left k) (nth d.position k) ≡ guest_in_range d k
  unfolding guest_in_range
  server_is h = rw (lt-ltb k d.plan.count h) refl

  -- A guest in its ranges is one whose record and whose row are.
  guest_row : k < d.plan.count
      → guest_is_ok (guest_in d k) k (nth d.left k) (nth d.position k) d.rest d.wait d.age ≡ ((ranges.guest_ok (guest_in d k) && tasks_ok (guest_in d k)) && (is_periodic (guest_in d k) && row_ok d k))
  unfolding guest_is_ok row_ok
  guest_row h =
      rw (server_is h, all_ext _ (task_in_range d k) 16 (λ t l. task_is h t))
      (ap (λ (b : Bool). (ranges.guest_ok (guest_in d k) && tasks_ok (guest_in d k)) && b)
      (and_assoc (is_periodic (guest_in d k)) (guest_in_range d k) (all_to (task_in_range d k) 16)))

  -- The test of a place of a row past the guests is the definition's.
  pub past_task_is : d.plan.count ≤ k → (t : ℕ) → blank_at d.rest d.wait d.age k t ≡ task_in_range d k t
  unfolding task_in_range tasks_in
  past_task_is h t = rw (le-ltb k d.plan.count h, le-ltb t 0 (omega arith)) refl

  -- The test of the two numbers of a row past the guests is the definition's.
  past_server_is : d.plan.count ≤ k → no_server (nth d.left k) (nth d.position k) ≡ guest_in_range d k
  unfolding guest_in_range
  past_server_is h = rw (le-ltb k d.plan.count h) refl

  -- A blank row is a row past the guests.
  blank_row : d.plan.count ≤ k → row_is_blank k (nth d.left k) (nth d.position k) d.rest d.wait d.age ≡ row_ok d k
  unfolding row_is_blank row_ok
  blank_row h = rw (past_server_is h, all_ext _ (task_in_range d k) 16 (λ t l. past_task_is h t)) refl

-- Tests that pass together agree.
same : (a b : Bool) → (a ≡ true → b ≡ true) → (b ≡ true → a ≡ true) → a ≡ b
same true b f g = sym (f refl)
same false true f g = g refl
same false false f g = refl

module _ (d : Dispatcher) (some : 1 ≤ d.plan.count) (few : d.plan.count ≤ 8) where
  -- Where no guest is refused, the plan is not.
  numbers_none : ((k : ℕ) → k < d.plan.count → guest_number d.plan.guests k ≡ 0) → (plan_refusal d.plan).number ≡ 0
  numbers_none h = rw (← counted d.plan some few) (ap (λ (r : Refusal). r.number) (first_fine _ d.plan.count 0 (λ z l b. h z (omega arith))))

  -- Where the plan is not refused, no guest is.
  number_zero : (plan_refusal d.plan).number ≡ 0 → (k : ℕ) → k < d.plan.count → guest_number d.plan.guests k ≡ 0
  number_zero e k h = none_refused _ d.plan.count 0 (rw (← counted d.plan some few) at e) k (omega arith) (omega arith)

  -- A guest that goes has no number, is Periodic, and has its row in its ranges.
  goes_number :
      (k : ℕ)
      → k < d.plan.count
      → guest_goes d k ≡ true
      → (guest_number d.plan.guests k ≡ 0) × ((is_periodic (guest_in d k) ≡ true) × (row_ok d k ≡ true))
  unfolding guest_number
  goes_number k h e =
      let f = and_left (new_id (λ j. (guest_in d j).id) k) _ e in
      let g = sym (guest_row d k h) ∙ and_right (new_id (λ j. (guest_in d j).id) k) _ e in
      let r = and_left (ranges.guest_ok (guest_in d k) && tasks_ok (guest_in d k)) _ g in
      let q = and_right (ranges.guest_ok (guest_in d k) && tasks_ok (guest_in d k)) (is_periodic (guest_in d k) && row_ok d k) g in (
        sym (none (guest_in d k) _ (and_left (ranges.guest_ok (guest_in d k)) _ r) f (and_right (ranges.guest_ok (guest_in d k)) _ r)),
        (and_left (is_periodic (guest_in d k)) (row_ok d k) q, and_right (is_periodic (guest_in d k)) (row_ok d k) q),
      )

  -- A Periodic guest with no number, whose row is in its ranges, goes.
  number_goes :
      (k : ℕ)
      → k < d.plan.count
      → guest_number d.plan.guests k ≡ 0
      → is_periodic (guest_in d k) ≡ true
      → row_ok d k ≡ true
      → guest_goes d k ≡ true
  unfolding guest_number number_of
  number_goes k h e q r =
      let a = passed (ranges.guest_ok (guest_in d k) && new_id (λ j. (guest_in d j).id) k) 4 _ (omega arith) e in
      let b = passed (tasks_ok (guest_in d k)) 6 [] (omega arith) a.1 in
      and_true (and_right (ranges.guest_ok (guest_in d k)) _ a.0)
      (guest_row d k h ∙ and_true (and_true (and_left (ranges.guest_ok (guest_in d k)) _ a.0) b.0) (and_true q r))

  -- whether row k, if past the state's guests, is blank
  abbrev past : ℕ → Bool
  past = past_ok d.plan.count d.left d.position d.rest d.wait d.age

  -- A state that passes is in its ranges.
  in_ranges : (all_to (guest_goes d) d.plan.count && all_to past 8) ≡ true → state_ok d ≡ true
  unfolding state_ok
  in_ranges e =
      let each : (k : ℕ) → k < d.plan.count → guest_goes d k ≡ true = λ k h. all_at (guest_goes d) d.plan.count k h (and_left _ (all_to past 8) e) in
      let order = numbers_none (λ k h. (goes_number k h (each k h)).0) in
      let all = periodic_by d.plan (λ k h. (goes_number k h (each k h)).1.0) in
      and_true (eq-eqb (start_refusal d.plan).number 0 (starts_by d.plan order all))
      (all_by (row_ok d) 8 (λ k h. row k h (each k) (all_at past 8 k h (and_right (all_to (guest_goes d) d.plan.count) _ e))))
    where
      row : (k : ℕ) → k < 8 → (k < d.plan.count → guest_goes d k ≡ true) → past k ≡ true → row_ok d k ≡ true
      row k h g p =
          elim (dec_lt k d.plan.count) [
            | yes l ↦ (goes_number k l (g l)).1.1
            | no l ↦ sym (blank_row d k (omega arith)) ∙ (rw (le-ltb k d.plan.count (omega arith)) at p)
          ]

  -- A state in its ranges passes.
  stands : state_ok d ≡ true → (all_to (guest_goes d) d.plan.count && all_to past 8) ≡ true
  stands e =
      let start = ok_start d e in
      let n = starts_in_order d.plan start in
      and_true
      (all_by (guest_goes d) d.plan.count
      (λ k h. number_goes k h (number_zero n k h) (periodic_at d.plan (starts_periodic d.plan start) k h) (ok_row d e k (omega arith))))
      (all_by past 8 (λ k h. row k (ok_row d e k h)))
    where
      row : (k : ℕ) → row_ok d k ≡ true → past k ≡ true
      row k r =
          elim (dec_lt k d.plan.count) [
            | yes l ↦ rw (lt-ltb k d.plan.count l) refl
            | no l ↦ rw (le-ltb k d.plan.count (omega arith)) (blank_row d k (omega arith) ∙ r)
          ]

  -- Guests that go and blank rows are a state in its ranges.
  pass_is : (all_to (guest_goes d) d.plan.count && all_to past 8) ≡ state_ok d
  pass_is = same _ (state_ok d) in_ranges stands

-- A state whose plan has no guest, or more than 8, is outside its ranges.
uncounted : (d : Dispatcher) → refused 1 0 ≡ plan_refusal d.plan → state_ok d ≡ false
unfolding state_ok
uncounted d f =
    rw (← records_refused d.plan (omega (arith, ap (λ (r : Refusal). r.number) f)), ← f) refl

-- The check over lent arrays is refusal 14's test.
pub passes_is : (d : Dispatcher) → passes d.plan d.left d.position d.rest d.wait d.age ≡ state_ok d
unfolding passes
passes_is d =
    elim (dec_le 1 d.plan.count) [
      | yes s ↦
          elim (dec_le d.plan.count 8) [
            | yes f ↦ rw (le-leb 1 d.plan.count s, le-leb d.plan.count 8 f) (pass_is d s f)
            | no f ↦
                let w = and_false_right (leb 1 d.plan.count) (lt-leb d.plan.count 8 (omega arith)) in
                and_false_left _ w ∙ sym (uncounted d (count_out d.plan w))
          ]
      | no s ↦
          let w = and_false_left (leb d.plan.count 8) (lt-leb 1 d.plan.count (omega arith)) in
          and_false_left _ w ∙ sym (uncounted d (count_out d.plan w))
    ]

-- The check over lent arrays examines the state, wherever its ticks went.
pub examines : (d : Dispatcher) (r : Option Columns) → Examined d.plan d.left d.position d.rest d.wait d.age r → Examines d r
examines d None e = sym (passes_is d) ∙ e
examines d (Some c) e = record { okay = sym (passes_is d) ∙ e.okay; columns = e.columns }
