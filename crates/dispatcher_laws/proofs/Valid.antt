-- A state in its ranges stays so over a tick and over a taken release: each number stays in its range. Assumes nothing.
use mathlib.Core.Path.{◌≡◌, refl, sym, ap, ◌∙◌}
use mathlib.Core.Logic.{⊎_elim}
use mathlib.Core.Bool.{Bool, true, false, false≢true}
use mathlib.Core.List.{List}
use Prim.Native.Nat.{ℕ, ◌+◌, ◌-◌, ◌≤◌, ◌<◌, min, zero, suc}
use native.Mathlib.Decide.{ℕ_discrete}
use native.Mathlib.Omega.{arith}
use lib.Dec.{ltb, eqb}
use lib.ListN.{set}
use lib.Seq.{get_or-set_other}
use borrow.Author.Tests.{ltb-true, ltb-false, lt-ltb, eq-eqb}
use Rattle.lists.specs.Choice.{pick}
use Rattle.lists.specs.Places.{nth}
use Rattle.plan.specs.Records.{every_of}
use Rattle.plan.specs.Ranges.{longest}
use Rattle.plan.specs.Charge.{charged}
use Rattle.plan.specs.Periodic.{start_refusal}
use Rattle.dispatcher.specs.declared.Dispatcher.{Dispatcher}
use Rattle.arrays.specs.Place.{place_at}
use Rattle.dispatcher.specs.State.{guest_in, rest_at, wait_at, age_at}
use Rattle.dispatcher.specs.Valid.{tasks_in, guest_in_range, task_in_range, state_ok, row_ok}
use Rattle.dispatcher.specs.Tick.{less_at, refilled, holder, is_held, left_after, worker, is_worked, rest_after, age_after, wait_after, position_after, next}
use Rattle.dispatcher.specs.Release.{taken}
use Rattle.dispatcher.specs.Run.{ticks}
use Rattle.lists.proofs.Places.{up_to_rest, up_to_get, set_get}
use Rattle.dispatcher.proofs.Valid.{ok_start, ok_row}
use Rattle.lists.proofs.All.{and_left, and_right, and_true, all_at, all_by}
use Rattle.dispatcher_laws.proofs.Ranges.{server_by, job_by}
use Rattle.dispatcher_laws.proofs.Seen.{pos_at, left_at}
use Rattle.dispatcher_laws.proofs.Tick.{next_plan}

-- ---- the state part by part
-- Each guest of a state in its ranges is in its own.
pub ok_guest : (d : Dispatcher) → state_ok d ≡ true → (k : ℕ) → k < 8 → guest_in_range d k ≡ true
unfolding row_ok
ok_guest d e k h = and_left (guest_in_range d k) _ (ok_row d e k h)

-- Each task of a state in its ranges is in its own.
pub ok_task : (d : Dispatcher) → state_ok d ≡ true → (k t : ℕ) → k < 8 → t < 16 → task_in_range d k t ≡ true
unfolding row_ok
ok_task d e k t h l = all_at (task_in_range d k) 16 t l (and_right (guest_in_range d k) _ (ok_row d e k h))

-- A state whose plan, guests and tasks are in their ranges is in its own.
pub ok_by :
    (d : Dispatcher)
    → (start_refusal d.plan).number ≡ 0
    → ((k : ℕ) → k < 8 → guest_in_range d k ≡ true)
    → ((k t : ℕ) → k < 8 → t < 16 → task_in_range d k t ≡ true)
    → state_ok d ≡ true
unfolding state_ok row_ok
ok_by d e g t =
    and_true (eq-eqb _ 0 e)
    (all_by (row_ok d) 8 (λ k h. and_true (g k h) (all_by (task_in_range d k) 16 (λ j l. t k j h l))))

-- ---- a tick
-- One less at a place leaves no place more.
set_less : (l : List ℕ) (i k : ℕ) → nth (set l i (nth l i - 1)) k ≤ nth l k
set_less l i k =
    elim (ℕ_discrete k i) [
      | yes e ↦ rw e (⊎_elim (λ p. omega arith) (λ p. omega arith) (set_get l i (nth l i - 1) i))
      | no e ↦ omega (arith, get_or-set_other l i k (nth l i - 1) 0 e)
    ]

-- One less at a place leaves no place more, whether the test holds or not.
less_le : (b : Bool) (l : List ℕ) (i k : ℕ) → nth (less_at b l i) k ≤ nth l k
unfolding less_at
less_le true l i k = set_less l i k
less_le false l i k = omega arith

-- Both within a bound, either is.
pick_le : (b : Bool) (x y n : ℕ) → x ≤ n → y ≤ n → pick b x y ≤ n
pick_le true x y n p q = p
pick_le false x y n p q = q

-- A position that moves on stays inside the period.
moved_lt : (x t : ℕ) (b : Bool) → ltb (x + 1) t ≡ b → 0 < t → pick b (x + 1) 0 < t
moved_lt x t true e h = ltb-true _ _ e
moved_lt x t false e h = h

module _ (d : Dispatcher) where
  -- A guest has no more left than its capacity.
  left_within : (k : ℕ) → left_at d k ≤ (guest_in d k).capacity → left_at (next d) k ≤ (guest_in d k).capacity
  unfolding next left_after refilled
  left_within k h =
      let m = less_le (is_held d) (refilled d) (holder d) k in
      let c = pick_le (eqb (pos_at d k) 0) (guest_in d k).capacity (left_at d k) (guest_in d k).capacity (omega arith) h in
      ⊎_elim (λ e. omega arith) (λ e. omega arith)
      (up_to_get (λ k left. pick (eqb (nth d.position k) 0) (guest_in d k).capacity left) d.plan.count d.left k)

  -- Past the guests nothing is left.
  left_past : (k : ℕ) → d.plan.count ≤ k → left_at d k ≡ 0 → left_at (next d) k ≡ 0
  unfolding next left_after refilled
  left_past k h e =
      omega (
        arith,
        less_le (is_held d) (refilled d) (holder d) k,
        up_to_rest (λ k left. pick (eqb (nth d.position k) 0) (guest_in d k).capacity left) d.plan.count d.left k h,
      )

  -- A guest's position is inside its period.
  position_within : (k : ℕ) → pos_at d k < (guest_in d k).period → pos_at (next d) k < (guest_in d k).period
  unfolding next position_after
  position_within k h =
      ⊎_elim (λ e. rw e (moved_lt (pos_at d k) (guest_in d k).period _ refl (omega arith))) (λ e. rw e h)
      (up_to_get (λ k position. pick (ltb (position + 1) (guest_in d k).period) (position + 1) 0) d.plan.count d.position k)

  -- Past the guests the position is 0.
  position_past : (k : ℕ) → d.plan.count ≤ k → pos_at d k ≡ 0 → pos_at (next d) k ≡ 0
  unfolding next position_after
  position_past k h e =
      up_to_rest (λ k position. pick (ltb (position + 1) (guest_in d k).period) (position + 1) 0) d.plan.count d.position k h ∙ e

  -- No run left grows.
  rest_le : (k t : ℕ) → rest_at (next d) k t ≤ rest_at d k t
  unfolding next rest_after
  rest_le k t = less_le (is_worked d) d.rest (place_at (holder d) (worker d)) (place_at k t)

  -- No wait grows.
  wait_le : (k t : ℕ) → wait_at (next d) k t ≤ wait_at d k t
  unfolding next wait_after
  wait_le k t = ⊎_elim (λ e. omega arith) (λ e. omega arith) (up_to_get (λ k wait. wait - 1) 128 d.wait (place_at k t))

  -- No age passes 1,000,000.
  age_within : (k t : ℕ) → age_at d k t ≤ longest → age_at (next d) k t ≤ longest
  unfolding next age_after
  age_within k t h =
      ⊎_elim (λ e. rw e (pick_le (ltb 0 (rest_at d k t)) _ _ longest (omega arith) h)) (λ e. omega arith)
      (up_to_get (λ k age. pick (ltb 0 (nth d.rest k)) (min (age + 1) longest) age) 128 d.age (place_at k t))

  -- Where there is no job the age stands.
  age_stands : (k t : ℕ) → rest_at d k t ≡ 0 → age_at (next d) k t ≡ age_at d k t
  unfolding next age_after
  age_stands k t h =
      ⊎_elim (λ e. e ∙ ap (λ (n : ℕ). pick (ltb 0 n) (min (age_at d k t + 1) longest) (age_at d k t)) h) (λ e. e)
      (up_to_get (λ k age. pick (ltb 0 (nth d.rest k)) (min (age + 1) longest) age) 128 d.age (place_at k t))

  -- A guest in its ranges stays so over a tick.
  guest_next : (k : ℕ) → guest_in_range d k ≡ true → guest_in_range (next d) k ≡ true
  unfolding guest_in_range next
  guest_next k e =
      server_by (ltb k d.plan.count) (guest_in d k).capacity (guest_in d k).period (left_at d k) (pos_at d k) (left_at (next d) k)
      (pos_at (next d) k) (λ q l p. (left_within k l, position_within k p))
      (λ q l p. (left_past k (ltb-false _ _ q) l, position_past k (ltb-false _ _ q) p)) e

  -- A task in its ranges stays so over a tick.
  task_next : (k t : ℕ) → task_in_range d k t ≡ true → task_in_range (next d) k t ≡ true
  unfolding task_in_range tasks_in next
  task_next k t e =
      job_by (ltb t (tasks_in d k)) (charged (guest_in d k) t) (every_of (guest_in d k) t) (rest_at d k t) (wait_at d k t) (age_at d k t)
      (rest_at (next d) k t) (wait_at (next d) k t) (age_at (next d) k t)
      (λ q j. record { work = omega (arith, rest_le k t, j.work); due = omega (arith, wait_le k t, j.due); old = age_within k t j.old })
      (λ q j a. (
        record { work = omega (arith, rest_le k t, j.work); due = omega (arith, wait_le k t, j.due); old = omega arith },
        age_stands k t (omega (arith, j.work)) ∙ a,
      ))
      e

  -- A state in its ranges stays so over a tick.
  pub ok_next : state_ok d ≡ true → state_ok (next d) ≡ true
  ok_next e =
      ok_by (next d) (rw (next_plan d) (ok_start d e)) (λ k h. guest_next k (ok_guest d e k h)) (λ k t h l. task_next k t (ok_task d e k t h l))

-- A state in its ranges stays so over any number of ticks.
pub ok_ticks : (n : ℕ) (d : Dispatcher) → state_ok d ≡ true → state_ok (ticks n d) ≡ true
unfolding ticks
ok_ticks zero d ok = ok
ok_ticks (suc n) d ok = ok_ticks n (next d) (ok_next d ok)

-- ---- a taken release
-- A taken release leaves the records.
pub taken_plan : (d : Dispatcher) (k t : ℕ) → (taken d k t).plan ≡ d.plan
unfolding taken
taken_plan d k t = refl

-- A taken release leaves the guests' numbers.
taken_guest : (d : Dispatcher) (k t g : ℕ) → guest_in_range (taken d k t) g ≡ guest_in_range d g
unfolding taken guest_in_range
taken_guest d k t g = refl

module _ (d : Dispatcher) (k t : ℕ) (in_plan : k < d.plan.count) (in_guest : t < (guest_in d k).tasks) (few : (guest_in d k).tasks ≤ 16) where
  -- The released task is in its ranges.
  task_new : task_in_range d k t ≡ true → task_in_range (taken d k t) k t ≡ true
  unfolding task_in_range tasks_in taken
  task_new e =
      job_by (ltb t (tasks_in d k)) (charged (guest_in d k) t) (every_of (guest_in d k) t) (rest_at d k t) (wait_at d k t) (age_at d k t)
      (rest_at (taken d k t) k t) (wait_at (taken d k t) k t) (age_at (taken d k t) k t)
      (λ q j. record {
        work = ⊎_elim (λ p. omega arith) (λ p. omega (arith, j.work)) (set_get d.rest (place_at k t) (charged (guest_in d k) t) (place_at k t));
        due = ⊎_elim (λ p. omega arith) (λ p. omega (arith, j.due)) (set_get d.wait (place_at k t) (every_of (guest_in d k) t) (place_at k t));
        old = ⊎_elim (λ p. omega arith) (λ p. omega (arith, j.old)) (set_get d.age (place_at k t) 0 (place_at k t));
      })
      (λ q j a. absurd (false≢true (sym (rw (lt-ltb k d.plan.count in_plan) at q) ∙ lt-ltb t (guest_in d k).tasks in_guest)))
      e

  -- Any other task is as it was.
  task_other : (g j : ℕ) → (place_at g j ≡ place_at k t → ⊥) → task_in_range d g j ≡ true → task_in_range (taken d k t) g j ≡ true
  unfolding task_in_range tasks_in taken
  task_other g j n e =
      rw (
        get_or-set_other d.rest (place_at k t) (place_at g j) (charged (guest_in d k) t) 0 n,
        get_or-set_other d.wait (place_at k t) (place_at g j) (every_of (guest_in d k) t) 0 n,
        get_or-set_other d.age (place_at k t) (place_at g j) 0 0 n,
      )
      e

  -- A state in its ranges stays so over a taken release.
  pub ok_taken : state_ok d ≡ true → state_ok (taken d k t) ≡ true
  ok_taken e = ok_by (taken d k t) plan guest task
    where
      plan : (start_refusal (taken d k t).plan).number ≡ 0
      plan = rw (taken_plan d k t) (ok_start d e)

      guest : (g : ℕ) → g < 8 → guest_in_range (taken d k t) g ≡ true
      guest g h = rw (taken_guest d k t g) (ok_guest d e g h)

      task : (g j : ℕ) → g < 8 → j < 16 → task_in_range (taken d k t) g j ≡ true
      task g j h l =
          elim (ℕ_discrete (place_at g j) (place_at k t)) [
            | yes q ↦
                (let a : g ≡ k = omega arith in
                let b : j ≡ t = omega arith in
                rw (a, b) (task_new (rw (a, b) at (ok_task d e g j h l))))
            | no n ↦ task_other g j n (ok_task d e g j h l)
          ]
