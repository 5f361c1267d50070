-- What the answer for the smallest capacity says of the equations.
use Rattle.std.specs.Prelude.{◌≡◌, ℕ, ◌≤◌, ◌<◌, Result, Ok, Err}
use Rattle.plan.specs.Records.{guest_at}
use Rattle.plan.specs.declared.Plan.{Plan}
use Rattle.plan.specs.declared.Refusal.{Refusal}
use Rattle.capacity.specs.Capacity.{with_capacity}
use Rattle.verdict_laws.specs.Guests.{AllFit}
use Rattle.verdict_laws.specs.Tasks.{AllInTime}

-- c, from 1 to the period, works: with it the guest at place k and all above are fitted and all its tasks are met
pub record CapacityWorks (p : Plan) (k c : ℕ) : Type 0 where
  pub low : 1 ≤ c
  pub high : c ≤ (guest_at p.guests k).period
  pub fitted : AllFit (with_capacity p k c) k
  pub met : AllInTime (with_capacity p k c) k

-- c is the smallest capacity that works
pub record CapacitySmallest (p : Plan) (k c : ℕ) : Type 0 where
  pub works : CapacityWorks p k c
  pub least : (z : ℕ) → z < c → ¬ CapacityWorks p k z

-- no capacity works, which is refusal 11 with place 0
pub record NoCapacity (p : Plan) (k n place : ℕ) : Type 0 where
  pub number : n ≡ 11
  pub nowhere : place ≡ 0
  pub none : (c : ℕ) → ¬ CapacityWorks p k c

-- what an answer means where records are in order and the guest is there
abbrev pub CapacityMeans : Plan → ℕ → Result ℕ Refusal → Type 0
CapacityMeans p k (Err r) = NoCapacity p k r.number r.place
CapacityMeans p k (Ok c) = CapacitySmallest p k c
