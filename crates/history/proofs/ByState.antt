-- In a state of the plan the number of a release goes by where the guest stands, by the task's wait and by its run
-- left. Assumes nothing.
use mathlib.Core.Path.{◌≡◌, refl, sym, ap, subst, ◌∙◌}
use mathlib.Core.Bool.{Bool, true, false, false≢true}
use mathlib.Core.Logic.{◌⊎◌, inl, inr}
use Prim.Native.Nat.{ℕ, suc, ◌-◌, ◌<◌}
use native.Mathlib.Decide.{dec_lt, ℕ_discrete}
use native.Mathlib.Omega.{arith}
use Rattle.plan.specs.declared.Plan.{Plan}
use Rattle.plan.specs.Marks.{is_bound, may_start}
use Rattle.plan.specs.Place.{place_of}
use Rattle.plan.specs.Records.{guest_at}
use Rattle.dispatcher.specs.declared.Dispatcher.{Dispatcher}
use Rattle.dispatcher.specs.Release.{release_number, release}
use Rattle.dispatcher.specs.State.{guest_in}
use Rattle.verdict_laws.specs.Tasks.{TaskThere}
use Rattle.history.specs.Named.{bound_by, position_by, rest_by, wait_by, StartsHere}
use Rattle.plan.proofs.MarksLaws.{starts_here, may_not_start}
use Rattle.dispatcher_laws.proofs.Release.{release_number_lem, away_number, waits_number, left_number, none_number}
use Rattle.dispatcher_laws.proofs.Seen.{pos_at}
use Rattle.dispatcher_laws.proofs.Sound.{Sound}

module _ (p : Plan) (id number : ℕ) (T : TaskThere p id number) (d : Dispatcher) (D : Sound p d) where
  -- The guest is found in the state's plan.
  guest : place_of d.plan id ≡ place_of p id
  guest = ap (λ (z : Plan). place_of z id) D.plan

  -- The guest is one of the state's plan.
  in_plan : place_of p id < d.plan.count
  in_plan = rw D.plan T.there.place

  -- The task is one of that guest.
  in_guest : number - 1 < (guest_in d (place_of p id)).tasks
  in_guest = rw D.plan T.in_guest

  -- A number that the tests give is the release's, its task being counted from 1.
  given : {n : ℕ} → release_number d id (suc (number - 1)) ≡ n → (release d id number).refusal.number ≡ n
  given {n} e =
      release_number_lem d id number ∙ subst (λ (z : ℕ). release_number d id z ≡ n) (sym T.from_1) e

  -- Where the task is bound and its guest past position 0, the number is 17.
  pub away : bound_by p id number ≡ true → 0 < position_by p id d → (release d id number).refusal.number ≡ 17
  away b h =
      given
      (away_number d id (place_of p id) (number - 1) D.ok guest in_plan in_guest
      ((may_not_start (guest_in d (place_of p id)) (pos_at d (place_of p id)) (number - 1)).1 (rw D.plan b, h)))

  module _ (here : StartsHere p id number d) where
    -- The task may start.
    may : may_start (guest_in d (place_of p id)) (pos_at d (place_of p id)) (number - 1) ≡ true
    may =
        starts_here (guest_in d (place_of p id)) (pos_at d (place_of p id)) (number - 1)
        (λ b. here (subst (λ (z : Plan). is_bound (guest_at z.guests (place_of p id)) (number - 1) ≡ true) D.plan b))

    -- While the task waits, the number is 9.
    pub waiting : 0 < wait_by p id number d → (release d id number).refusal.number ≡ 9
    waiting h =
        given (waits_number d id (place_of p id) (number - 1) D.ok guest in_plan in_guest may h)

    -- Where it does not wait and has run left, the number is 10.
    pub unfinished : wait_by p id number d ≡ 0 → 0 < rest_by p id number d → (release d id number).refusal.number ≡ 10
    unfinished w r =
        given (left_number d id (place_of p id) (number - 1) D.ok guest in_plan in_guest may w r)

    -- Where it does not wait and has none left, the release is taken.
    pub accepted : wait_by p id number d ≡ 0 → rest_by p id number d ≡ 0 → (release d id number).refusal.number ≡ 0
    accepted w r =
        given (none_number d id (place_of p id) (number - 1) D.ok guest in_plan in_guest may w r)

    -- The number is not 17.
    pub not_17 : (release d id number).refusal.number ≡ 17 → ⊥
    not_17 e =
        elim (dec_lt 0 (wait_by p id number d)) [
          | yes w ↦ omega (arith, waiting w)
          | no w ↦
              elim (dec_lt 0 (rest_by p id number d)) [
                | yes r ↦ omega (arith, unfinished (omega arith) r)
                | no r ↦ omega (arith, accepted (omega arith) (omega arith))
              ]
        ]

-- A task may be released where its guest stands, or it is bound and its guest past position 0.
pub here_or_away :
    (p : Plan) (id number : ℕ) (d : Dispatcher)
    → StartsHere p id number d ⊎ ((bound_by p id number ≡ true) × (0 < position_by p id d))
here_or_away p id number d = by (bound_by p id number) refl
  where
    by : (b : Bool) → bound_by p id number ≡ b
        → StartsHere p id number d ⊎ ((bound_by p id number ≡ true) × (0 < position_by p id d))
    by true e =
        elim (ℕ_discrete (position_by p id d) 0) [
          | yes z ↦ inl (λ b. z)
          | no z ↦ inr (e, omega arith)
        ]
    by false e = inl (λ b. absurd (false≢true (sym e ∙ b)))
