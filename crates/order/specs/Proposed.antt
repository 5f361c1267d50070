-- The order proposed for a guest's tasks, with its refusals in order.
use Rattle.std.specs.Prelude.{◌≡◌, Bool, not, ◌&&◌, List, [], ◌∷◌, ℕ, ◌<◌, Result, Ok, Err}
use Rattle.lists.specs.All.{all_to}
use Rattle.lists.specs.Refusals.{◌or_refuse◌}
use Rattle.plan.specs.First.{refused, refuse_or}
use Rattle.plan.specs.Marks.{is_bound}
use Rattle.plan.specs.Order.{records_then}
use Rattle.plan.specs.Place.{place_of, has_guest}
use Rattle.plan.specs.Placed.{with_guest}
use Rattle.plan.specs.Ranges.{most_guests}
use Rattle.plan.specs.Records.{guest_at}
use Rattle.plan.specs.Server.{is_deferrable}
use Rattle.plan.specs.declared.Guest.{Guest}
use Rattle.plan.specs.declared.Plan.{Plan}
use Rattle.plan.specs.declared.Refusal.{Refusal}
use Rattle.response.specs.Guest.{fitted_to}
use Rattle.response.specs.Met.{all_met}
use Rattle.order.specs.declared.Ordered.{Ordered}
use Rattle.order.specs.Reordered.{by_deadline, with_order}

-- Whether a guest passes refusal 21's test: it is Periodic, and none of its tasks is bound.
unfoldable pub may_reorder : Guest → Bool
may_reorder g = not (is_deferrable g) && all_to (λ i. not (is_bound g i)) g.tasks

-- An order works: with it the guest at place k and all above are fitted, and all its tasks are met.
unfoldable pub order_works : Plan → (k : ℕ) → (order : List ℕ) → Bool
order_works p k order = let q = with_order p k order in fitted_to q k && all_met q k

-- An answer: the refusal's number, 0 for none, and its place, and the plan that comes back.
abbrev pub answering : Plan → (number place : ℕ) → Ordered
answering p number place = record { refusal = refused number place; plan = p }

-- The order proposed: the records' order, then 7, then 21, then 22 where the order by deadline does not work, each with
-- the plan as it was; else the plan with the guest's tasks in that order.
unfoldable pub proposed : Plan → (id : ℕ) → Ordered
proposed p id =
    let k = place_of p id in
    let g = guest_at p.guests k in
    refuse_or (answering p)
    (records_then p
    (has_guest p id or_refuse 7 ∷ may_reorder g or_refuse 21 ∷ order_works p k (by_deadline g) or_refuse 22 ∷ []))
    (answering (with_order p k (by_deadline g)) 0 0)

-- What becomes of a guest by its id: with the guest that comes back at its place the plan is the one proposed, or the
-- refusal is the answer's.
abbrev pub Settles : Plan → (id : ℕ) → Result (ℕ × Guest) Refusal → Type 0
Settles p id (Ok (k, g)) = (k < most_guests) × (answering (with_guest p k g) 0 0 ≡ proposed p id)
Settles p id (Err r) = answering p r.number r.place ≡ proposed p id
