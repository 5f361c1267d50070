-- P12, which order a guest's tasks should have. `proposed p id` is what the entry answers: a refusal and a plan.
use mathlib.Core.Path.{◌≡◌}
use mathlib.Core.Bool.{true}
use mathlib.Core.Logic.{◌⊎◌}
use Prim.Native.Nat.{ℕ, ◌<◌}
use Rattle.lists.specs.Exactly.{◌exactly_when◌}
use Rattle.plan.specs.Marks.{is_bound}
use Rattle.plan.specs.Order.{plan_refusal}
use Rattle.plan.specs.Place.{place_of}
use Rattle.plan.specs.Records.{guest_at}
use Rattle.plan.specs.Server.{is_deferrable}
use Rattle.plan.specs.declared.Plan.{Plan}
use Rattle.verdict_laws.specs.Guests.{There}
use Rattle.order.specs.Proposed.{answering, proposed}
use Rattle.order_laws.specs.Proposals.{Orderable, OnlyReordered, SaidMet, NoOrder}
use Rattle.order_laws.proofs.Again as again
use Rattle.order_laws.proofs.Proposals as proposals
use Rattle.order_laws.proofs.Proposed as outcome

-- In the plan that comes back the guest and all above are fitted, and the verdict of each of its tasks says met.
pub all_met : (p : Plan) (id : ℕ) → (proposed p id).refusal.number ≡ 0 → SaidMet (proposed p id).plan id (place_of p id)
all_met = proposals.all_met

-- It has the same tasks, each as often as before, run, period and deadline together, by deadline, and equals as handed
-- in; everything else is as it was handed over.
pub only_reordered :
    (p : Plan) (id : ℕ)
    → (proposed p id).refusal.number ≡ 0
    → OnlyReordered p (place_of p id) (proposed p id).plan
only_reordered = proposals.only_reordered

-- On a refusal the plan comes back as it was.
pub kept_on_refusal : (p : Plan) (id : ℕ) → 0 < (proposed p id).refusal.number → (proposed p id).plan ≡ p
kept_on_refusal = outcome.kept_on_refusal

-- 22 is given exactly if in every order of the guest's tasks some task is not met.
pub twenty_two_exactly :
    (p : Plan) (id k : ℕ)
    → Orderable p id k
    → ((proposed p id).refusal.number ≡ 22) exactly_when NoOrder p id k
twenty_two_exactly = proposals.twenty_two_exactly

-- 21 is given exactly of a Deferrable guest and of one with a bound task.
pub twenty_one_exactly :
    (p : Plan) (id k : ℕ)
    → There p id k
    → ((proposed p id).refusal.number ≡ 21)
    exactly_when
    ((is_deferrable (guest_at p.guests k) ≡ true)
    ⊎ ((i : ℕ) × (i < (guest_at p.guests k).tasks) × (is_bound (guest_at p.guests k) i ≡ true)))
twenty_one_exactly = proposals.twenty_one_exactly

-- 7 is given exactly if no guest of records in order has the id.
pub seven_exactly :
    (p : Plan) (id : ℕ)
    → (plan_refusal p).number ≡ 0
    → ((proposed p id).refusal.number ≡ 7)
    exactly_when ((k : ℕ) → k < p.count → (guest_at p.guests k).id ≡ id → ⊥)
seven_exactly = proposals.seven_exactly

-- Records that are not in order have their own refusal.
pub records_refused :
    (p : Plan) (id : ℕ)
    → 0 < (plan_refusal p).number
    → proposed p id ≡ answering p (plan_refusal p).number (plan_refusal p).place
records_refused = outcome.records_refused

-- The order proposed of an order proposed is itself.
pub proposed_again :
    (p : Plan) (id : ℕ)
    → (proposed p id).refusal.number ≡ 0
    → proposed (proposed p id).plan id ≡ proposed p id
proposed_again = again.proposed_again
