-- The plan with another guest at a place is the plan itself elsewhere, and passes the check where that guest does.
-- Assumes nothing.
use mathlib.Core.Path.{◌≡◌, refl, sym, ap, fun_ext}
use mathlib.Core.Bool.{true}
use mathlib.Core.List.{List}
use Prim.Native.Nat.{ℕ, ◌<◌}
use native.Mathlib.Decide.{dec_lt, ℕ_discrete}
use native.Mathlib.Omega.{arith}
use lib.ListN.{length, get_or-eq_default}
use lib.Seq.{get_or-set_same, get_or-set_other, set-get_or, set-set}
use Rattle.plan.specs.declared.Guest.{Guest}
use Rattle.plan.specs.declared.Plan.{Plan}
use Rattle.plan.specs.First.{fine}
use Rattle.plan.specs.Order.{guest_number, plan_refusal}
use Rattle.plan.specs.Placed.{with_guest}
use Rattle.plan.specs.Ranges.{guest_ok, tasks_ok}
use Rattle.plan.specs.Records.{absent, guest_at}
use Rattle.plan.proofs.Order.{PlanIn, plan_in, none, numbers_none, numbers_fine}

-- A place that holds a guest in its ranges is a place of the list: no other has an id.
pub in_list : (p : Plan) → PlanIn p → (k : ℕ) → k < p.count → k < length p.guests
in_list p o k h =
    elim (dec_lt k (length p.guests)) [
      | yes l ↦ l
      | no n ↦
          let out = get_or-eq_default p.guests absent {n = k} (omega arith) in
          absurd (omega (arith, (o.guests k h).head.named, ap (λ (g : Guest). g.id) out))
    ]

-- A plan whose guest is put where it stands is the plan.
pub placed_own : (p : Plan) (k : ℕ) → with_guest p k (guest_at p.guests k) ≡ p
unfolding with_guest
placed_own p k = ap (λ (gs : List Guest). record { count = p.count; guests = gs }) (set-get_or p.guests k absent)

-- Of two guests put at one place the second stands there.
pub placed_again : (p : Plan) (k : ℕ) (g h : Guest) → with_guest (with_guest p k g) k h ≡ with_guest p k h
unfolding with_guest
placed_again p k g h = ap (λ (gs : List Guest). record { count = p.count; guests = gs }) (set-set p.guests k g h)

module _ (p : Plan) (k : ℕ) (g : Guest) where
  -- It has as many guests.
  pub placed_count : (with_guest p k g).count ≡ p.count
  unfolding with_guest
  placed_count = refl

  -- The guest stands at the place.
  pub placed_there : k < length p.guests → guest_at (with_guest p k g).guests k ≡ g
  unfolding with_guest
  placed_there here = get_or-set_same p.guests k g absent here

  -- The others are as they were.
  pub placed_other : (j : ℕ) → (j ≡ k → ⊥) → guest_at (with_guest p k g).guests j ≡ guest_at p.guests j
  unfolding with_guest
  placed_other j n = get_or-set_other p.guests k j g absent n

-- A guest with the id of the one that stood there, in its ranges with all its tasks.
module _ (p : Plan) (ok : (plan_refusal p).number ≡ 0) (k : ℕ) (h : k < p.count) (g : Guest)
    (named : g.id ≡ (guest_at p.guests k).id) (head : guest_ok g ≡ true) (tasks : tasks_ok g ≡ true) where
  -- The place is one of the list.
  here : k < length p.guests
  here = in_list p (plan_in p ok) k h

  -- The ids are as they were.
  same_id : (j : ℕ) → (guest_at (with_guest p k g).guests j).id ≡ (guest_at p.guests j).id
  same_id j =
      elim (ℕ_discrete j k) [
        | yes e ↦ rw (e, placed_there p k g here) named
        | no n ↦ ap (λ (g : Guest). g.id) (placed_other p k g j n)
      ]

  -- No number refuses a guest of that plan.
  number_none : (j : ℕ) → j < p.count → guest_number (with_guest p k g).guests j ≡ 0
  unfolding guest_number
  number_none j l =
      elim (ℕ_discrete j k) [
        | yes e ↦ rw (e, fun_ext same_id, placed_there p k g here) (sym (none g _ head ((plan_in p ok).new k h) tasks))
        | no n ↦ rw (fun_ext same_id, placed_other p k g j n) (numbers_none p ok j l)
      ]

  -- So the plan with it passes the check.
  pub placed_fine : plan_refusal (with_guest p k g) ≡ fine
  unfolding with_guest
  placed_fine = numbers_fine (with_guest p k g) (plan_in p ok).some (plan_in p ok).few number_none
