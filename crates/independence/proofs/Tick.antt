-- A tick of two states that are alike for a guest leaves them so. Assumes nothing.
use mathlib.Core.Path.{◌≡◌, refl, sym, ap, ◌∙◌}
use Prim.Native.Nat.{ℕ, ◌+◌, ◌≤◌, ◌<◌, min}
use native.Mathlib.Decide.{ℕ_discrete}
use native.Mathlib.Omega.{arith}
use lib.Dec.{ltb}
use Rattle.lists.specs.Choice.{pick}
use Rattle.lists.specs.Places.{nth}
use Rattle.plan.specs.declared.Plan.{Plan}
use Rattle.plan.specs.Ranges.{longest}
use Rattle.arrays.specs.Place.{place_at}
use Rattle.dispatcher.specs.declared.Dispatcher.{Dispatcher}
use Rattle.dispatcher.specs.State.{guest_in, rest_at, wait_at, age_at}
use Rattle.dispatcher.specs.Tick.{holder, worker, age_after, next}
use Rattle.independence.specs.SameFor.{SameFor}
use Rattle.lists.proofs.Places.{up_to_at}
use Rattle.lists.proofs.Search.{first_ext}
use Rattle.dispatcher_laws.proofs.Seen.{pos_at, left_at, held_at, Shaped}
use Rattle.dispatcher_laws.proofs.Sound.{sound_next}
use Rattle.dispatcher_laws.proofs.Tick.{position_at, wait_falls}
use Rattle.dispatcher_laws.proofs.GuestTick.{guest_tick}
use Rattle.dispatcher_laws.proofs.TaskTick.{rest_else, task_served}
use Rattle.independence.proofs.Alike.{Alike, tasks_of, same_turned, alike_turned, in_one, in_other, same_period, same_held, same_holder, tasks_one, tasks_other}

-- An age after the tick goes by the run left and the age before it.
age_at_lem :
    (d : Dispatcher) → Shaped d → (g t : ℕ) → g < 8 → t < 16
    → age_at (next d) g t ≡ pick (ltb 0 (rest_at d g t)) (min (age_at d g t + 1) longest) (age_at d g t)
unfolding next age_after
age_at_lem d H g t h l =
    up_to_at (λ k age. pick (ltb 0 (nth d.rest k)) (min (age + 1) longest) age) 128 d.age (place_at g t)
    (omega arith)
    (omega (arith, H.age_long))

-- One tick of two states that are alike.
module _ {id k : ℕ} {p q : Plan} (S : SameFor id k p q) {d e : Dispatcher} (A : Alike k (tasks_of p k) p q d e) where
  -- The other way round: a tick that goes to one of these guests in the other state goes to the same guest in the one.
  pub holder_back : holder e ≤ k → holder d ≡ holder e
  holder_back = same_holder (same_turned S) (alike_turned A)

  -- Where the guest does not have the tick in the one state, it does not have it in the other.
  pub else_too : (holder d ≡ k → ⊥) → holder e ≡ k → ⊥
  else_too n z = n (holder_back (omega arith) ∙ z)

  -- The guest stands at one of 8 places.
  few : k < 8
  few = omega (arith, in_one S A, A.one.shaped.few)

  -- It has at most 16 tasks.
  sixteen : tasks_of p k ≤ 16
  sixteen = omega (arith, tasks_one S A, A.one.shaped.tasks k (in_one S A))

  -- Capacities left stay the same.
  left_next : (j : ℕ) → j ≤ k → left_at (next d) j ≡ left_at (next e) j
  left_next j l =
      let s = (guest_tick d A.one.shaped k (in_one S A)).served in
      let r = (guest_tick e A.other.shaped k (in_other S A)).served in
      let same = same_held S A j l in
      elim (ℕ_discrete j (holder d)) [
        | yes z ↦
            (let y : j ≡ holder e = z ∙ sym (same_holder S A (omega arith)) in
            let a : left_at (next d) j + 1 ≡ held_at d j = rw z (s.took (omega arith)) in
            let b : left_at (next e) j + 1 ≡ held_at e j = rw y (r.took (omega arith)) in
            omega arith)
        | no z ↦ s.same j l z ∙ same ∙ sym (r.same j l (λ y. z (y ∙ sym (holder_back (omega arith)))))
      ]

  -- Positions stay the same.
  position_next : (j : ℕ) → j ≤ k → pos_at (next d) j ≡ pos_at (next e) j
  position_next j l =
      position_at d A.one.shaped j (omega (arith, in_one S A))
      ∙ rw (A.position j l, same_period S A j l) refl
      ∙ sym (position_at e A.other.shaped j (omega (arith, in_other S A)))

  -- Where the guest has the tick, the same task of it has it.
  pub same_worker : holder d ≡ k → holder e ≡ k → worker d ≡ worker e
  unfolding worker
  same_worker x y =
      rw (x, y, tasks_one S A, tasks_other S A)
      (first_ext (λ t. ltb 0 (rest_at d k t)) (λ t. ltb 0 (rest_at e k t)) (tasks_of p k) 0
      (λ t l. ap (λ (z : ℕ). ltb 0 z) (A.rest t (omega arith))))

  -- Runs left stay the same.
  rest_next : (t : ℕ) → t < tasks_of p k → rest_at (next d) k t ≡ rest_at (next e) k t
  rest_next t l =
      let in-d : t < (guest_in d k).tasks = omega (arith, tasks_one S A) in
      let in_e : t < (guest_in e k).tasks = omega (arith, tasks_other S A) in
      elim (ℕ_discrete (holder d) k) [
        | no n ↦
            rest_else d A.one.shaped k t (in_one S A) in-d n t (omega arith)
            ∙ A.rest t l
            ∙ sym (rest_else e A.other.shaped k t (in_other S A) in_e (else_too n) t (omega arith))
        | yes x ↦
            (let y : holder e ≡ k = same_holder S A (omega arith) ∙ x in
            let s = task_served d A.one.shaped k t (in_one S A) in-d x in
            let r = task_served e A.other.shaped k t (in_other S A) in_e y in
            let same = same_worker x y in
            elim (ℕ_discrete t (worker d)) [
              | yes z ↦
                  (let w : t ≡ worker e = z ∙ same in
                  let a : rest_at (next d) k t + 1 ≡ rest_at d k t = rw z (s.took (omega arith)) in
                  let b : rest_at (next e) k t + 1 ≡ rest_at e k t = rw w (r.took (omega arith)) in
                  omega (arith, A.rest t l))
              | no z ↦ s.same t (omega arith) z ∙ A.rest t l ∙ sym (r.same t (omega arith) (λ w. z (w ∙ sym same)))
            ])
      ]

  -- Waits stay the same.
  wait_next : (t : ℕ) → t < tasks_of p k → wait_at (next d) k t ≡ wait_at (next e) k t
  wait_next t l =
      wait_falls d A.one.shaped k t few (omega (arith, sixteen))
      ∙ rw (A.wait t l) refl
      ∙ sym (wait_falls e A.other.shaped k t few (omega (arith, sixteen)))

  -- Ages stay the same.
  pub age_next : (t : ℕ) → t < tasks_of p k → age_at (next d) k t ≡ age_at (next e) k t
  age_next t l =
      age_at_lem d A.one.shaped k t few (omega (arith, sixteen))
      ∙ rw (A.rest t l, A.age t l) refl
      ∙ sym (age_at_lem e A.other.shaped k t few (omega (arith, sixteen)))

  -- The states after the tick are alike.
  pub alike_next : Alike k (tasks_of p k) p q (next d) (next e)
  alike_next = record {
    one = sound_next d A.one;
    other = sound_next e A.other;
    left = left_next;
    position = position_next;
    rest = rest_next;
    wait = wait_next;
    age = age_next;
  }
