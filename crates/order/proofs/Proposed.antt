-- How the code comes to the order proposed: the way in, then the tests of 21 and 22. Assumes nothing.
use Rattle.std.specs.Prelude.{Ok, Err}
use mathlib.Core.Path.{◌≡◌, refl, sym, ◌∙◌, ap}
use mathlib.Core.Bool.{Bool, true, false, ◌&&◌}
use mathlib.Core.List.{List, [], ◌∷◌}
use Prim.Native.Nat.{ℕ, ◌≤◌}
use native.Mathlib.Omega.{arith}
use Rattle.lists.specs.All.{all_to}
use Rattle.lists.specs.Refusals.{Test, refusal, ◌or_refuse◌}
use Rattle.plan.specs.First.{refused_by}
use Rattle.plan.specs.LookUp.{LooksUp}
use Rattle.plan.specs.Place.{place_of}
use Rattle.plan.specs.Ranges.{most_guests}
use Rattle.plan.specs.Records.{guest_at}
use Rattle.plan.specs.declared.Refusal.{Refusal}
use Rattle.plan.specs.declared.Plan.{Plan}
use Rattle.response.specs.Columns.{ServersOf, above_of, fitted_of, accepted_under}
use Rattle.response.specs.declared.servers.Servers.{Servers}
use Rattle.order.specs.declared.Ordered.{Ordered}
use Rattle.order.specs.Reordered.{reordered, by_deadline, with_order}
use Rattle.order.specs.Proposed.{may_reorder, order_works, answering, proposed}
use Rattle.plan.proofs.First.{test_refuses, test_passes, no_test}
use Rattle.plan.proofs.LookUp.{look_order, look_place, look_here, look_few, look_refuses, look_goes_on}
use Rattle.plan.proofs.Placed.{in_list}
use Rattle.response.proofs.ColumnsLaws.{servers_take, servers_fit}
use Rattle.response.proofs.PlacedLaws.{placed_works}

-- The tests after 7, at a place.
abbrev tests : Plan → (k : ℕ) → List Test
tests p k =
    let g = guest_at p.guests k in
    may_reorder g or_refuse 21 ∷ order_works p k (by_deadline g) or_refuse 22 ∷ []

-- The answer where no test fails.
abbrev in_deadline_order : Plan → (k : ℕ) → Ordered
in_deadline_order p k = answering (with_order p k (by_deadline (guest_at p.guests k))) 0 0

module _ (p : Plan) (id : ℕ) where
  -- The way in refuses: so does the proposal.
  pub settled_refused : {r : Refusal} → LooksUp p id (Err r) → answering p r.number r.place ≡ proposed p id
  unfolding proposed
  settled_refused l = look_refuses (answering p) p id l _ _

  -- The guest that the way in found.
  module _ {k : ℕ} (l : LooksUp p id (Ok k)) where
    -- The tests after 7 decide.
    goes_on : refused_by (answering p) (refusal (tests p k)) 0 (in_deadline_order p k) ≡ proposed p id
    unfolding proposed
    goes_on =
        ap (λ (j : ℕ). refused_by (answering p) (refusal (tests p j)) 0 (in_deadline_order p j)) (look_place p id l)
        ∙ look_goes_on p id l (answering p) (tests p (place_of p id)) (in_deadline_order p (place_of p id))

    -- The trial among the plan's servers is the definition's test.
    pub tried_is : {s : Servers} (f : ServersOf p.guests most_guests s) {b : Bool}
        → b
        ≡ (all_to (fitted_of s) k
        && accepted_under (above_of s k) (reordered (guest_at p.guests k) (by_deadline (guest_at p.guests k))))
        → order_works p k (by_deadline (guest_at p.guests k)) ≡ b
    unfolding order_works
    tried_is {s} f e =
        let g = guest_at p.guests k in
        let few : k ≤ 8 = omega (arith, look_few p id l) in
        placed_works p k (reordered g (by_deadline g)) (in_list p (look_order p id l) k (look_here p id l))
        ∙ sym (e ∙ rw (servers_fit p f k few, servers_take p f k few) refl)

    -- By 21.
    pub settled_21 : may_reorder (guest_at p.guests k) ≡ false → answering p 21 0 ≡ proposed p id
    settled_21 f = test_refuses (answering p) 21 _ _ (omega arith) f ∙ goes_on

    module _ (may : may_reorder (guest_at p.guests k) ≡ true) where
      -- By 22.
      pub settled_22 : order_works p k (by_deadline (guest_at p.guests k)) ≡ false → answering p 22 0 ≡ proposed p id
      settled_22 f =
          test_refuses (answering p) 22 [] _ (omega arith) f ∙ test_passes (answering p) 21 _ _ may ∙ goes_on

      -- Or its tasks stand by deadline.
      pub settled_0 : order_works p k (by_deadline (guest_at p.guests k)) ≡ true → in_deadline_order p k ≡ proposed p id
      settled_0 f =
          no_test (answering p) (in_deadline_order p k) ∙ test_passes (answering p) 22 [] _ f
          ∙ test_passes (answering p) 21 _ _ may ∙ goes_on
