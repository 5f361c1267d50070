-- The stored capacity plays no part in the smallest: the plan with another one passes the check, and each trial is of
-- the same plan. Assumes nothing.
use mathlib.Core.Path.{◌≡◌, refl, sym, ◌∙◌, ap, fun_ext}
use mathlib.Core.Bool.{◌&&◌}
use Prim.Native.Nat.{ℕ, ◌≤◌, ◌<◌}
use lib.ListN.{length}
use Rattle.plan.specs.Placed.{with_guest}
use Rattle.plan.specs.Records.{guest_at}
use Rattle.plan.specs.declared.Guest.{Guest}
use Rattle.plan.specs.declared.Plan.{Plan}
use Rattle.plan.specs.declared.Refusal.{Refusal}
use Rattle.response.specs.Guest.{fitted_to}
use Rattle.response.specs.Met.{all_met}
use Rattle.capacity.specs.Capacity.{at_capacity, with_capacity, works, smallest}
use Rattle.capacity.specs.Answer.{capacity_says, smallest_capacity}
use Rattle.verdict_laws.specs.Guests.{There}
use Rattle.plan.proofs.Order.{PlanIn, plan_in}
use Rattle.plan.proofs.Placed.{in_list, placed_again}
use Rattle.capacity.proofs.Capacity.{guest_there, capacity_fine}
use Rattle.verdict_laws.proofs.Capacities.{capacity_answer_is}

module _ (p : Plan) (id k c : ℕ) (t : There p id k) (low : 1 ≤ c) (high : c ≤ (guest_at p.guests k).period) where
  -- the plan with the other capacity
  abbrev q : Plan
  q = with_capacity p k c

  -- the records are in order
  order : PlanIn p
  order = plan_in p t.order

  -- the place is one of the list
  here : k < length p.guests
  here = in_list p order k t.place

  -- the guest is in the plan with the other capacity
  there : There q id k
  unfolding with_guest
  there = record {
    order = ap (λ (r : Refusal). r.number) (capacity_fine p t.order k t.place c low high);
    place = t.place;
    named = ap (λ (g : Guest). g.id) (guest_there p k here c) ∙ t.named;
  }

  -- a trial is of the same plan
  same_trial : (x : ℕ) → with_capacity q k x ≡ with_capacity p k x
  same_trial x =
      let g = guest_at p.guests k in
      ap (λ (h : Guest). with_guest (with_guest p k (at_capacity g c)) k (at_capacity h x)) (guest_there p k here c)
      ∙ placed_again p k (at_capacity g c) (at_capacity g x)

  -- the same capacities work
  same_smallest : smallest q k ≡ smallest p k
  unfolding smallest works
  same_smallest =
      let e : works q k ≡ works p k = fun_ext (λ x. ap (λ (r : Plan). fitted_to r k && all_met r k) (same_trial x)) in
      rw (e, guest_there p k here c) refl

  -- the smallest capacity is the same at each stored one
  pub stored_no_part : smallest_capacity (with_capacity p k c) id ≡ smallest_capacity p id
  stored_no_part = capacity_answer_is q id k there ∙ ap capacity_says same_smallest ∙ sym (capacity_answer_is p id k t)
