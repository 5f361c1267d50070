-- Releases, where two states are alike for a guest: one of its own has the same answer in both and leaves them alike;
-- one of another guest's task, called in one of them alone, leaves them alike. Assumes nothing.
use mathlib.Core.Path.{◌≡◌, refl, sym, ap, ◌∙◌}
use mathlib.Core.Bool.{Bool, true, false}
use mathlib.Core.List.{[], ◌∷◌}
use Prim.Native.Nat.{ℕ, ◌-◌, ◌<◌}
use native.Mathlib.Decide.{ℕ_discrete}
use native.Mathlib.Omega.{arith}
use lib.Dec.{eqb}
use borrow.Author.Tests.{lt-ltb}
use Rattle.lists.specs.Places.{nth}
use Rattle.lists.specs.Refusals.{refusal, ◌or_refuse◌}
use Rattle.plan.specs.declared.Guest.{Guest}
use Rattle.plan.specs.declared.Plan.{Plan}
use Rattle.plan.specs.Marks.{may_start}
use Rattle.plan.specs.Place.{place_of, has_guest, has_number, has_task}
use Rattle.plan.specs.Records.{every_of}
use Rattle.plan.specs.Charge.{charged}
use Rattle.arrays.specs.Place.{place_at}
use Rattle.dispatcher.specs.declared.Dispatcher.{Dispatcher}
use Rattle.dispatcher.specs.State.{guest_in, rest_at, wait_at}
use Rattle.dispatcher.specs.Release.{taken, release_number, release}
use Rattle.independence.specs.SameFor.{SameFor}
use Rattle.lists.proofs.Refusals.{go_on, stop}
use Rattle.plan.proofs.RangesLaws.{within_says}
use Rattle.verdict_laws.proofs.Ids.{found_id}
use Rattle.verdict_laws.proofs.Guests.{there_place}
use Rattle.dispatcher_laws.proofs.Sound.{Sound, sound_taken}
use Rattle.dispatcher_laws.proofs.Release.{Free, Took, kept, took, release_took, release_number_lem, free_taken, taken_here, taken_else}
use Rattle.independence.proofs.Alike.{Alike, tasks_of, in_one, in_other, same_record, tasks_one, tasks_other}

-- The number of a release once the guest is known to be there: 8, 17, 9, 10.
abbrev own_number : Bool → (tasks wait rest task : ℕ) → ℕ
own_number may tasks wait rest task =
    refusal (has_number tasks task or_refuse 8 ∷ may or_refuse 17 ∷ eqb wait 0 or_refuse 9 ∷ eqb rest 0 or_refuse 10 ∷ [])

-- Where the guest is there, 14 and 7 are not given.
number_here :
    {p : Plan} (d : Dispatcher) (id k task : ℕ)
    → Sound p d
    → place_of d.plan id ≡ k
    → k < d.plan.count
    → release_number d id task
    ≡ own_number (may_start (guest_in d k) (nth d.position k) (task - 1)) (guest_in d k).tasks (wait_at d k (task - 1))
    (rest_at d k (task - 1)) task
unfolding release_number has_guest has_task
number_here d id k task D e h = rw e (go_on 14 _ D.ok ∙ go_on 7 _ (lt-ltb k d.plan.count h))

-- Numbers that agree on a task that is there give the same answer.
own_number_lem :
    (b may : Bool) (tasks wait rest wait' rest' task : ℕ)
    → has_number tasks task ≡ b
    → (task - 1 < tasks → (wait ≡ wait') × (rest ≡ rest'))
    → own_number may tasks wait rest task ≡ own_number may tasks wait' rest' task
own_number_lem false may tasks wait rest wait' rest' task e h = stop 8 _ e ∙ sym (stop 8 _ e)
own_number_lem true may tasks wait rest wait' rest' task e h =
    let w = within_says 1 tasks task e in
    let s = h (omega (arith, w.0, w.1)) in
    rw (s.0, s.1) refl

-- Two states that are alike for the guest with that id.
module _ {id k : ℕ} {p q : Plan} (S : SameFor id k p q) {d e : Dispatcher} (A : Alike k (tasks_of p k) p q d e) where
  -- The guest's place in the plan of the one state.
  place_one : place_of d.plan id ≡ k
  place_one = ap (λ (z : Plan). place_of z id) A.one.plan ∙ there_place p id k S.here

  -- The guest's place in the plan of the other.
  place_other : place_of e.plan id ≡ k
  place_other = ap (λ (z : Plan). place_of z id) A.other.plan ∙ there_place q id k S.there

  -- ---- its own release
  -- A task of its own may start in both or in neither.
  same_start :
      (task : ℕ)
      → may_start (guest_in d k) (nth d.position k) (task - 1) ≡ may_start (guest_in e k) (nth e.position k) (task - 1)
  same_start task = rw (same_record S A, A.position k (omega arith)) refl

  -- A release of its own comes to the same number in both.
  same_number : (task : ℕ) → release_number d id task ≡ release_number e id task
  same_number task =
      number_here d id k task A.one place_one (in_one S A)
      ∙ rw (same_start task, tasks_one S A, tasks_other S A)
      (own_number_lem (has_number (tasks_of p k) task) (may_start (guest_in e k) (nth e.position k) (task - 1)) (tasks_of p k) (wait_at d k (task - 1)) (rest_at d k (task - 1))
      (wait_at e k (task - 1)) (rest_at e k (task - 1)) task refl (λ l. (A.wait (task - 1) l, A.rest (task - 1) l)))
      ∙ sym (number_here e id k task A.other place_other (in_other S A))

  -- A release of its own is answered alike.
  pub same_answer : (task : ℕ) → (release d id task).refusal.number ≡ (release e id task).refusal.number
  same_answer task = release_number_lem d id task ∙ same_number task ∙ sym (release_number_lem e id task)

  -- A release of its own that is taken in both leaves them alike.
  taken_both :
      (task t : ℕ)
      → Free d id task k t
      → Free e id task k t
      → Alike k (tasks_of p k) p q (taken d k t) (taken e k t)
  unfolding taken
  taken_both task t F G =
      let new-d = taken_here d A.one.shaped k t F.in_plan F.in_guest F.due F.free in
      let new-e = taken_here e A.other.shaped k t G.in_plan G.in_guest G.due G.free in
      let else-d = taken_else d A.one.shaped k t F.in_plan F.in_guest k in
      let else-e = taken_else e A.other.shaped k t G.in_plan G.in_guest k in
      record {
        one = sound_taken d id task k t A.one F;
        other = sound_taken e id task k t A.other G;
        left = A.left;
        position = A.position;
        rest = λ m l.
            elim (ℕ_discrete m t) [
              | yes z ↦ rw z (new-d.filled ∙ ap (λ (g : Guest). charged g t) (same_record S A) ∙ sym new-e.filled)
              | no z ↦ (else-d m (λ y. z (omega arith))).left ∙ A.rest m l ∙ sym (else-e m (λ y. z (omega arith))).left
            ];
        wait = λ m l.
            elim (ℕ_discrete m t) [
              | yes z ↦ rw z (new-d.waits ∙ ap (λ (g : Guest). every_of g t) (same_record S A) ∙ sym new-e.waits)
              | no z ↦ (else-d m (λ y. z (omega arith))).due ∙ A.wait m l ∙ sym (else-e m (λ y. z (omega arith))).due
            ];
        age = λ m l.
            elim (ℕ_discrete m t) [
              | yes z ↦ rw z (new-d.young ∙ sym new-e.young)
              | no z ↦ (else-d m (λ y. z (omega arith))).old ∙ A.age m l ∙ sym (else-e m (λ y. z (omega arith))).old
            ];
      }

  -- A release of its own leaves them alike, taken in both or refused in both.
  own_by :
      (task : ℕ)
      → Took d id task (release d id task)
      → Took e id task (release e id task)
      → Alike k (tasks_of p k) p q (release d id task).state (release e id task).state
  own_by task (kept m x) (kept n y) = rw (x, y) A
  own_by task (kept m x) (took g t F y) = absurd (m (same_answer task ∙ free_taken e id task g t F))
  own_by task (took g t F x) (kept n y) = absurd (n (sym (same_answer task) ∙ free_taken d id task g t F))
  own_by task (took g t F x) (took h u G y) =
      let a : g ≡ k = sym F.guest ∙ place_one in
      let b : h ≡ k = sym G.guest ∙ place_other in
      let c : u ≡ t = omega (arith, F.number, G.number) in
      rw (x, y, a, b, c) (taken_both task t (rw a at F) (rw (b, c) at G))

  -- A release of its own leaves them alike.
  pub alike_own : (task : ℕ) → Alike k (tasks_of p k) p q (release d id task).state (release e id task).state
  alike_own task = own_by task (release_took d id task) (release_took e id task)

  -- ---- another guest's release
  -- A taken release of another guest's task, in the one state alone, leaves them alike.
  taken_one : (guest task g t : ℕ) → (g ≡ k → ⊥) → Free d guest task g t → Alike k (tasks_of p k) p q (taken d g t) e
  unfolding taken
  taken_one guest task g t n F =
      let far : (m : ℕ) → m < tasks_of p k → place_at k m ≡ place_at g t → ⊥ =
      λ m l y. n (omega (
        arith,
        tasks_one S A,
        A.one.shaped.tasks k (in_one S A),
        A.one.shaped.tasks g F.in_plan,
        F.in_guest,
      )) in
      let else-d = taken_else d A.one.shaped g t F.in_plan F.in_guest k in
      record {
        one = sound_taken d guest task g t A.one F;
        other = A.other;
        left = A.left;
        position = A.position;
        rest = λ m l. (else-d m (far m l)).left ∙ A.rest m l;
        wait = λ m l. (else-d m (far m l)).due ∙ A.wait m l;
        age = λ m l. (else-d m (far m l)).old ∙ A.age m l;
      }

  -- Another guest's task stands in another guest's row.
  other_row : (guest task g t : ℕ) → (guest ≡ id → ⊥) → Free d guest task g t → g ≡ k → ⊥
  other_row guest task g t n F z =
      let there : place_of p guest ≡ k = ap (λ (x : Plan). place_of x guest) (sym A.one.plan) ∙ F.guest ∙ z in
      n (sym (found_id p guest k there S.here.place) ∙ S.here.named)

  -- A release of another guest's task leaves them alike, by whether it is refused.
  other_by :
      (guest task : ℕ)
      → (guest ≡ id → ⊥)
      → Took d guest task (release d guest task)
      → Alike k (tasks_of p k) p q (release d guest task).state e
  other_by guest task n (kept m x) = rw x A
  other_by guest task n (took g t F x) = rw x (taken_one guest task g t (other_row guest task g t n F) F)

  -- A release of another guest's task leaves them alike.
  pub alike_other : (guest task : ℕ) → (guest ≡ id → ⊥) → Alike k (tasks_of p k) p q (release d guest task).state e
  alike_other guest task n = other_by guest task n (release_took d guest task)
