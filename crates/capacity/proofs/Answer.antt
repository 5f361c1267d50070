-- How the code comes to the answer: the way in, then the search. Assumes nothing.
use Rattle.std.specs.Prelude.{Option, Some, None, is_some, Result, Ok, Err}
use mathlib.Core.Path.{◌≡◌, refl, sym, ◌∙◌, ap}
use mathlib.Core.List.{[], ◌∷◌}
use Prim.Native.Nat.{ℕ, zero, suc}
use native.Mathlib.Omega.{arith}
use Rattle.lists.specs.Refusals.{◌or_refuse◌}
use Rattle.plan.specs.First.{refused, refused_by, refused_or, refuse_or, unless_refused}
use Rattle.plan.specs.LookUp.{LooksUp}
use Rattle.plan.specs.Order.{records_then}
use Rattle.plan.specs.Place.{place_of, has_guest}
use Rattle.plan.specs.declared.Plan.{Plan}
use Rattle.plan.specs.declared.Refusal.{Refusal}
use Rattle.response.specs.Window.{ticks_of}
use Rattle.capacity.specs.Capacity.{smallest}
use Rattle.capacity.specs.Answer.{capacity_says, smallest_capacity}
use Rattle.plan.proofs.First.{test_refuses, test_passes, no_test, err_says, err_unless}
use Rattle.plan.proofs.LookUp.{look_place, look_goes_on}
use Rattle.plan.proofs.Order.{records_first}

-- an outcome that a refusal ends, as an answer of two cases
outcome_is : {A : Type 0} (r : Refusal) (v : A)
    → refuse_or {A = Result A Refusal} (λ n place. Err (refused n place)) r (Ok v) ≡ unless_refused r v
unfolding refused_by
outcome_is {A} r v = go r.number r.place
  where
    go : (n k : ℕ) → refused_by {A = Result A Refusal} (λ x place. Err (refused x place)) n k (Ok v) ≡ refused_or n k v
    go zero k = refl
    go (suc n) k = refl

module _ (p : Plan) (id : ℕ) where
  -- the way in refuses
  pub capacity_refused : {r : Refusal} → LooksUp p id (Err r) → Err r ≡ smallest_capacity p id
  unfolding smallest_capacity
  capacity_refused {r} l =
      let e = err_says (records_then p (has_guest p id or_refuse 7 ∷ [])) (place_of p id) l in
      let found = smallest p (place_of p id) in
      err_unless (records_then p (has_guest p id or_refuse 7 ∷ is_some found or_refuse 11 ∷ [])) _
      (e.0 ∙ records_first p (has_guest p id) 7 _ e.1) (rw e.0 e.1)

  -- it found a place: the answer is what the search for the guest there finds, or 11
  pub capacity_found : {k : ℕ} → LooksUp p id (Ok k) → {x : Option ℕ} → x ≡ smallest p k
      → capacity_says x ≡ smallest_capacity p id
  unfolding smallest_capacity
  capacity_found {k} l {x} e =
      let q : smallest p (place_of p id) ≡ x = ap (smallest p) (sym (look_place p id l)) ∙ sym e in
      rw q (go x)
    where
      go : (f : Option ℕ)
          → capacity_says f
          ≡ unless_refused (records_then p (has_guest p id or_refuse 7 ∷ is_some f or_refuse 11 ∷ [])) (ticks_of f)
      go None =
          test_refuses (λ x place. Err (refused x place)) 11 [] (Ok 0) (omega arith) refl
          ∙ look_goes_on p id l (λ x place. Err (refused x place)) (is_some {T = ℕ} None or_refuse 11 ∷ []) (Ok 0)
          ∙ outcome_is _ 0
      go (Some c) =
          no_test (λ x place. Err (refused x place)) (Ok c)
          ∙ test_passes (λ x place. Err (refused x place)) 11 [] (Ok c) refl
          ∙ look_goes_on p id l (λ x place. Err (refused x place)) (is_some (Some c) or_refuse 11 ∷ []) (Ok c)
          ∙ outcome_is _ c
