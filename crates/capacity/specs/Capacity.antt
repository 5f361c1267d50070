-- The smallest capacity of a guest in a plan, all else unchanged.
use Rattle.std.specs.Prelude.{Bool, ◌&&◌, ℕ, Option}
use Rattle.lists.specs.Search.{least}
use Rattle.plan.specs.Placed.{with_guest}
use Rattle.plan.specs.Records.{guest_at}
use Rattle.plan.specs.declared.Guest.{Guest}
use Rattle.plan.specs.declared.Plan.{Plan}
use Rattle.response.specs.Guest.{fitted_to}
use Rattle.response.specs.Met.{all_met}

-- the guest with capacity c
abbrev pub at_capacity : Guest → ℕ → Guest
at_capacity g c = record {
  id = g.id;
  capacity = c;
  period = g.period;
  tasks = g.tasks;
  charge = g.charge;
  marks = g.marks;
  deferrable = g.deferrable;
  run = g.run;
  every = g.every;
  deadline = g.deadline;
}

-- the plan whose guest at place k has capacity c
abbrev pub with_capacity : Plan → ℕ → ℕ → Plan
with_capacity p k c = with_guest p k (at_capacity (guest_at p.guests k) c)

-- c works: there the guest at place k and all above are fitted, and all its tasks are met
unfoldable pub works : Plan → ℕ → ℕ → Bool
works p k c = let q = with_capacity p k c in fitted_to q k && all_met q k

-- the smallest capacity from 1 to the period that works
unfoldable pub smallest : Plan → ℕ → Option ℕ
smallest p k = least (works p k) (guest_at p.guests k).period 1
