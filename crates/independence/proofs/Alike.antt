-- The relation of two states that carries the proof, and serves it alone: all that a guest's view depends on is the
-- same in both. Assumes nothing.
use mathlib.Core.Path.{◌≡◌, refl, sym, ap, ◌∙◌}
use Prim.Native.Nat.{ℕ, ◌≤◌, ◌<◌}
use native.Mathlib.Decide.{dec_lt}
use native.Mathlib.Omega.{arith}
use lib.Dec.{ltb}
use Rattle.lists.specs.Places.{nth}
use Rattle.plan.specs.declared.Guest.{Guest}
use Rattle.plan.specs.declared.Plan.{Plan}
use Rattle.plan.specs.Records.{guest_at}
use Rattle.dispatcher.specs.declared.Dispatcher.{Dispatcher}
use Rattle.dispatcher.specs.State.{guest_in, rest_at, wait_at, age_at}
use Rattle.dispatcher.specs.Tick.{refilled, holder}
use Rattle.independence.specs.SameFor.{SameFor}
use Rattle.dispatcher_laws.proofs.Seen.{pos_at, left_at, held_at}
use Rattle.dispatcher_laws.proofs.Sound.{Sound}
use Rattle.dispatcher_laws.proofs.Tick.{refilled_at}
use Rattle.independence.proofs.First.{first_agree}

-- A state d of the plan p and a state e of the plan q, in their ranges and with their shapes, hold the same for the
-- guest at place k: capacity left and position of each guest down to it, and run left, wait and age of each of its n
-- tasks.
pub record Alike (k n : ℕ) (p q : Plan) (d e : Dispatcher) : Type 0 where
  pub one : Sound p d
  pub other : Sound q e
  pub left : (j : ℕ) → j ≤ k → left_at d j ≡ left_at e j
  pub position : (j : ℕ) → j ≤ k → pos_at d j ≡ pos_at e j
  pub rest : (t : ℕ) → t < n → rest_at d k t ≡ rest_at e k t
  pub wait : (t : ℕ) → t < n → wait_at d k t ≡ wait_at e k t
  pub age : (t : ℕ) → t < n → age_at d k t ≡ age_at e k t

-- The number of tasks of the guest at place k.
abbrev pub tasks_of : Plan → ℕ → ℕ
tasks_of p k = (guest_at p.guests k).tasks

-- The guests of a state are its plan's.
pub guest_of_lem : {p : Plan} (d : Dispatcher) → Sound p d → (j : ℕ) → guest_in d j ≡ guest_at p.guests j
guest_of_lem d D j = ap (λ (z : Plan). guest_at z.guests j) D.plan

-- The relation and the plans may be read the other way round.
pub same_turned : {id k : ℕ} {p q : Plan} → SameFor id k p q → SameFor id k q p
same_turned S = record {
  here = S.there;
  there = S.here;
  starts = S.other_starts;
  other_starts = S.starts;
  same = sym S.same;
  capacities = λ j l. sym (S.capacities j l);
  periods = λ j l. sym (S.periods j l);
}

-- The states may be read the other way round too.
pub alike_turned : {k n : ℕ} {p q : Plan} {d e : Dispatcher} → Alike k n p q d e → Alike k n q p e d
alike_turned A = record {
  one = A.other;
  other = A.one;
  left = λ j l. sym (A.left j l);
  position = λ j l. sym (A.position j l);
  rest = λ t l. sym (A.rest t l);
  wait = λ t l. sym (A.wait t l);
  age = λ t l. sym (A.age t l);
}

-- Two states that are alike for the guest, of two plans that are the same for it.
module _ {id k n : ℕ} {p q : Plan} (S : SameFor id k p q) {d e : Dispatcher} (A : Alike k n p q d e) where
  -- The guest is in the plan of the one state.
  pub in_one : k < d.plan.count
  in_one = rw A.one.plan S.here.place

  -- The guest is in the plan of the other.
  pub in_other : k < e.plan.count
  in_other = rw A.other.plan S.there.place

  -- The guest's record is the same.
  pub same_record : guest_in d k ≡ guest_in e k
  same_record = guest_of_lem d A.one k ∙ S.same ∙ sym (guest_of_lem e A.other k)

  -- The one state has as many tasks of the guest as its plan.
  pub tasks_one : (guest_in d k).tasks ≡ tasks_of p k
  tasks_one = ap (λ (g : Guest). g.tasks) (guest_of_lem d A.one k)

  -- The other state has as many.
  pub tasks_other : (guest_in e k).tasks ≡ tasks_of p k
  tasks_other = ap (λ (g : Guest). g.tasks) (guest_of_lem e A.other k ∙ sym S.same)

  -- The capacities down to the guest are the same.
  pub same_capacity : (j : ℕ) → j ≤ k → (guest_in d j).capacity ≡ (guest_in e j).capacity
  same_capacity j l =
      elim (dec_lt j k) [
        | yes h ↦
            ap (λ (g : Guest). g.capacity) (guest_of_lem d A.one j)
            ∙ S.capacities j h
            ∙ sym (ap (λ (g : Guest). g.capacity) (guest_of_lem e A.other j))
        | no h ↦ (let z : j ≡ k = omega arith in rw z (ap (λ (g : Guest). g.capacity) same_record))
      ]

  -- The periods down to the guest are the same.
  pub same_period : (j : ℕ) → j ≤ k → (guest_in d j).period ≡ (guest_in e j).period
  same_period j l =
      elim (dec_lt j k) [
        | yes h ↦
            ap (λ (g : Guest). g.period) (guest_of_lem d A.one j)
            ∙ S.periods j h
            ∙ sym (ap (λ (g : Guest). g.period) (guest_of_lem e A.other j))
        | no h ↦ (let z : j ≡ k = omega arith in rw z (ap (λ (g : Guest). g.period) same_record))
      ]

  -- What each guest down to this one holds, once those at position 0 are full, is the same.
  pub same_held : (j : ℕ) → j ≤ k → held_at d j ≡ held_at e j
  same_held j l = rw (A.position j l, same_capacity j l, A.left j l) refl

  -- A tick that goes to one of these guests in the one state goes to the same guest in the other.
  pub same_holder : holder d ≤ k → holder e ≡ holder d
  unfolding holder
  same_holder h =
      first_agree (λ j. ltb 0 (nth (refilled d) j)) (λ j. ltb 0 (nth (refilled e) j)) d.plan.count
      e.plan.count k
      in_one in_other
      (λ z l.
      ap (λ (x : ℕ). ltb 0 x)
      (refilled_at d A.one.shaped z (omega (arith, in_one))
      ∙ same_held z l
      ∙ sym (refilled_at e A.other.shaped z (omega (arith, in_other)))))
      h
