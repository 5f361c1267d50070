-- What the way in leaves to the calls that name a guest: a refusal, or records in order with the guest at its place.
-- Assumes nothing.
use Rattle.std.proofs.Common.{◌≡◌, Bool, ℕ, ◌≤◌, ◌<◌, ◌-◌, List, [], ◌∷◌, true, Ok, Err, refl, sym, ap, ◌∙◌, arith, eqb}
use borrow.Author.Tests.{eq-eqb, le-ltb, lt-ltb, ltb-true}
use Rattle.lists.specs.Search.{first_from}
use Rattle.lists.specs.Refusals.{Test, refusal, ◌or_refuse◌}
use Rattle.plan.specs.declared.Plan.{Plan}
use Rattle.plan.specs.declared.Refusal.{Refusal}
use Rattle.plan.specs.First.{refused, or_else, refused_by, refuse_or}
use Rattle.plan.specs.Order.{plan_refusal, records_then}
use Rattle.plan.specs.Place.{place_of, has_guest}
use Rattle.plan.specs.Ranges.{most_guests}
use Rattle.plan.specs.Records.{guest_at}
use Rattle.plan.specs.Promises.{Checks}
use Rattle.plan.specs.LookUp.{LooksUp}
use Rattle.lists.proofs.Search.{first_hit, first_none}
use Rattle.lists.proofs.Refusals.{none_left, go_on, stop, passed}
use Rattle.plan.proofs.First.{refused_here, number_refuses, test_passes, ok_says, err_says, err_unless}
use Rattle.plan.proofs.Order.{PlanIn, plan_in, records_first, records_none, records_pass}

-- how the code comes to the way in
module _ (p : Plan) (id : ℕ) where
  abbrev here : List Test
  here = has_guest p id or_refuse 7 ∷ []

  -- the way in of records that are refused
  pub looked_refused : {r : Refusal} → Checks p (Err r) → LooksUp p id (Err r)
  unfolding records_then
  looked_refused {r} e =
      let s = err_says (plan_refusal p) tt e in
      err_unless (records_then p here) _
      (s.0 ∙ refused_here (plan_refusal p).number (plan_refusal p).place (refused (refusal here) 0) s.1) (rw s.0 s.1)

  -- whether the guest at place k has the id
  abbrev pub has_id : ℕ → Bool
  has_id k = eqb (guest_at p.guests k).id id

  -- records in order
  module _ (e : Checks p (Ok tt)) where
    -- the way in of records in order has the number of the test of 7
    looked : (number : ℕ) → refusal here ≡ number → records_then p here ≡ refused number 0
    unfolding records_then or_else
    looked number q = rw ((ok_says (plan_refusal p) e).0, q) refl

    -- a search has come to place k, and from there on finds the guest's place
    module _ {k : ℕ} (s : first_from has_id (p.count - k) k ≡ place_of p id) where
      -- the way in where the guest at the place has the id
      pub looked_found : k < p.count → (guest_at p.guests k).id ≡ id → LooksUp p id (Ok k)
      unfolding has_guest
      looked_found l h =
          let found = sym (first_hit has_id p.count k l (eq-eqb _ id h)) ∙ s in
          let q = looked 0 (go_on 7 [] (lt-ltb (place_of p id) p.count (omega (arith, found))) ∙ none_left) in
          rw (q, ← found) refl

      -- the way in where no place is left
      pub looked_missing : p.count ≤ k → LooksUp p id (Err (refused 7 0))
      unfolding has_guest
      looked_missing l =
          let found = sym (first_none has_id p.count k l) ∙ s in
          let q = looked 7 (stop 7 [] (le-ltb (place_of p id) p.count (omega (arith, found)))) in
          rw q refl

-- a refusal of the way in is the call's, whatever it tests after 7
pub look_refuses :
    {A : Type 0} (refuse : ℕ → ℕ → A) (p : Plan) (id : ℕ) {r : Refusal} → LooksUp p id (Err r) → (ts : List Test) (v : A)
    → refuse r.number r.place ≡ refuse_or refuse (records_then p (has_guest p id or_refuse 7 ∷ ts)) v
look_refuses refuse p id {r} l ts v =
    let e = err_says (records_then p (has_guest p id or_refuse 7 ∷ [])) (place_of p id) l in
    number_refuses refuse r.number r.place v (rw e.0 e.1)
    ∙ ap (λ (x : Refusal). refuse_or refuse x v) (e.0 ∙ records_first p (has_guest p id) 7 ts e.1)

-- what a place says that the way in found
module _ (p : Plan) (id : ℕ) {k : ℕ} (l : LooksUp p id (Ok k)) where
  found : ((plan_refusal p).number ≡ 0) × ((has_guest p id ≡ true) × (k ≡ place_of p id))
  found =
      let e = ok_says (records_then p (has_guest p id or_refuse 7 ∷ [])) l in
      let o = records_none p (has_guest p id or_refuse 7 ∷ []) e.0 in
      (o.0, ((passed (has_guest p id) 7 [] (omega arith) o.1).0, e.1))

  -- the records are in order
  pub look_order : PlanIn p
  look_order = plan_in p found.0

  -- the place is the guest's
  pub look_place : k ≡ place_of p id
  look_place = found.1.1

  -- the guest's place is one of the plan's
  pub look_here : k < p.count
  unfolding has_guest
  look_here = omega (arith, look_place, ltb-true (place_of p id) p.count found.1.0)

  -- the guest's place is one of eight
  pub look_few : k < most_guests
  look_few = omega (arith, look_here, look_order.few)

  -- the tests after 7 decide the call's answer
  pub look_goes_on :
      {A : Type 0} (refuse : ℕ → ℕ → A) (ts : List Test) (v : A)
      → refused_by refuse (refusal ts) 0 v ≡ refuse_or refuse (records_then p (has_guest p id or_refuse 7 ∷ ts)) v
  look_goes_on refuse ts v =
      test_passes refuse 7 ts v found.1.0 ∙ records_pass refuse p (has_guest p id or_refuse 7 ∷ ts) v found.0
