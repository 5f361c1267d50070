-- `response::guest::response_from` meets its contract: x climbs and never passes a solution, so it ends at the least one
-- or past the most. Assumes nothing.
use Prim.Native.Nat.{◌-◌}
use Rattle.lists.specs.Places.{nth}
use Rattle.rounding.specs.Edges.{Behind}
use Rattle.response.specs.Columns.{above_of}
use Rattle.response.proofs.GuestLaws.{GuestInv}
use Rattle.response.proofs.guest.response_from.Given as goal

abbrev pub invariant-loop-capacities : goal.invariant-loop-capacities
invariant-loop-capacities l =
    GuestInv (above_of l.servers l.n) l.capacity l.most l.x
    × Behind (nth l.servers.capacities) (nth l.servers.periods) (nth l.servers.jitters) l.edges l.n l.x

abbrev pub decreases-loop-capacities : goal.decreases-loop-capacities
decreases-loop-capacities l = l.most - l.x
