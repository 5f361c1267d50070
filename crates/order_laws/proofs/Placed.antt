-- The plan with a guest's tasks in an order passes the check, its guest being there. Assumes nothing.
use mathlib.Core.Path.{◌≡◌, refl, ◌∙◌, ap}
use mathlib.Core.Bool.{true, false}
use mathlib.Core.List.{List}
use Prim.Native.Nat.{ℕ, ◌<◌}
use lib.ListN.{length}
use Rattle.plan.specs.Marks.{is_bound}
use Rattle.plan.specs.Ranges.{longest, task_ok, start_ok, tasks_ok}
use Rattle.plan.specs.Records.{guest_at}
use Rattle.plan.specs.declared.Guest.{Guest}
use Rattle.plan.specs.declared.Plan.{Plan}
use Rattle.plan.specs.declared.Refusal.{Refusal}
use Rattle.verdict_laws.specs.Guests.{There}
use Rattle.order.specs.Reordered.{reordered, with_order}
use Rattle.order_laws.specs.Orders.{IsOrder}
use Rattle.order_laws.specs.Proposals.{Orderable}
use Rattle.lists.proofs.All.{and_true, all_by}
use Rattle.plan.proofs.Order.{plan_in}
use Rattle.plan.proofs.Placed.{in_list, placed_count, placed_there, placed_fine}
use Rattle.plan.proofs.RangesLaws.{TaskIn, GuestIn, within_right, head_right}
use Rattle.order.proofs.Reordered.{task_in}

-- A task in its ranges passes refusal 6's test.
task_right_lem : {run every deadline : ℕ} → TaskIn run every deadline → task_ok run every deadline ≡ true
unfolding task_ok
task_right_lem {run} {every} {deadline} t =
    and_true
    (and_true (within_right longest run t.runs t.run_short) (within_right longest every t.some t.short))
    (within_right every deadline t.due t.in_time)

-- So do all tasks of a guest none of which is bound, in every order.
tasks_right : (g : Guest) → GuestIn g → ((i : ℕ) → i < g.tasks → is_bound g i ≡ false) → (order : List ℕ)
    → IsOrder g.tasks order → tasks_ok (reordered g order) ≡ true
unfolding tasks_ok start_ok
tasks_right g s free order o =
    and_true (all_by _ g.tasks (λ i h. task_right_lem (task_in g s order o.named i h)))
    (all_by _ g.tasks (λ i h. rw (free i h) refl))

module _ (p : Plan) (id k : ℕ) (t : Orderable p id k) where
  -- The guest is in its ranges.
  pub guest_in_lem : GuestIn (guest_at p.guests k)
  guest_in_lem = (plan_in p t.there.order).guests k t.there.place

  -- Its place is one of the list.
  pub here : k < length p.guests
  here = in_list p (plan_in p t.there.order) k t.there.place

  -- The guest in another order stands at its place.
  pub ordered_there : (order : List ℕ)
      → guest_at (with_order p k order).guests k ≡ reordered (guest_at p.guests k) order
  ordered_there order = placed_there p k (reordered (guest_at p.guests k) order) here

  -- The plan with it is in order, and has it.
  pub order_there : (order : List ℕ) → IsOrder (guest_at p.guests k).tasks order → There (with_order p k order) id k
  order_there order o =
      let g = guest_at p.guests k in
      let h = reordered g order in
      record {
        order = ap (λ (r : Refusal). r.number)
            (placed_fine p t.there.order k t.there.place h refl (head_right guest_in_lem.head)
            (tasks_right g guest_in_lem t.unbound order o));
        place = rw (placed_count p k h) t.there.place;
        named = ap (λ (g : Guest). g.id) (ordered_there order) ∙ t.there.named;
      }
