-- What the least capacities are: the plan is accepted with them, and in no choice of capacities at which it is accepted
-- has any guest less.
use Rattle.std.specs.Prelude.{◌≡◌, ℕ, ◌≤◌, ◌<◌, Ok}
use Rattle.lists.specs.Table.{table}
use Rattle.plan.specs.Ranges.{most_guests}
use Rattle.plan.specs.Records.{guest_at}
use Rattle.plan.specs.declared.Plan.{Plan}
use Rattle.verdict.specs.Verdict.{acceptance}
use Rattle.verdict.specs.declared.Acceptance.TheVariants.{Accepted}
use Rattle.capacity.specs.Capacity.{at_capacity}
use Rattle.choice.specs.Capacities.{least_capacities}

-- the plan whose guest at each place k has capacity c k
unfoldable pub with_capacities : Plan → (c : ℕ → ℕ) → Plan
with_capacities p c =
    record { count = p.count; guests = table (λ k. at_capacity (guest_at p.guests k) (c k)) most_guests }

-- the capacity chosen for the guest at place k
abbrev pub chosen_for : Plan → (k : ℕ) → ℕ
chosen_for p k = (guest_at (least_capacities p).plan.guests k).capacity

-- What a choice that is not refused is: accepted, and nothing but capacities changed.
pub record Chooses (p : Plan) : Type 0 where
  pub accepts : acceptance (least_capacities p).plan ≡ Ok Accepted
  pub others : (k : ℕ) → guest_at (least_capacities p).plan.guests k ≡ at_capacity (guest_at p.guests k) (chosen_for p k)

-- In any choice at which a plan that may be started is accepted, no guest has less than is chosen for it.
abbrev pub LeastOfAll : Plan → Type 0
LeastOfAll p = (c : ℕ → ℕ) → acceptance (with_capacities p c) ≡ Ok Accepted
    → ((least_capacities p).refusal.number ≡ 0) × ((k : ℕ) → k < p.count → chosen_for p k ≤ c k)

-- Where 11 refuses, no choice is accepted.
abbrev pub NoChoice : Plan → Type 0
NoChoice p = (c : ℕ → ℕ) → ¬ (acceptance (with_capacities p c) ≡ Ok Accepted)
