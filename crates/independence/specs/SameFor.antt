-- Two plans that are the same for one guest.
use Rattle.std.specs.Prelude.{◌≡◌, ℕ, ◌<◌}
use Rattle.plan.specs.declared.Plan.{Plan}
use Rattle.plan.specs.Records.{guest_at}
use Rattle.verdict_laws.specs.Guests.{There}
use Rattle.history.specs.Calls.{CanStart}

-- In both plans the guest with that id stands at place k, with the same record, and the guests above it have the same
-- capacities and the same periods. Ids, tasks and charges of the guests above may differ, and so may the guests below
-- it and how many there are. Neither start is refused.
pub record SameFor (id k : ℕ) (p q : Plan) : Type 0 where
  -- The records are in order, and the guest is there, in the one plan and in the other.
  pub here : There p id k
  pub there : There q id k
  -- Neither start is refused.
  pub starts : CanStart p
  pub other_starts : CanStart q
  -- The guest's own record is the same.
  pub same : guest_at p.guests k ≡ guest_at q.guests k
  -- The guests above it have the same capacities.
  pub capacities : (j : ℕ) → j < k → (guest_at p.guests j).capacity ≡ (guest_at q.guests j).capacity
  -- The guests above it have the same periods.
  pub periods : (j : ℕ) → j < k → (guest_at p.guests j).period ≡ (guest_at q.guests j).period
