-- `choice::capacities::choose`: after k turns the first k guests have their least capacities, and the servers are those
-- of the plan with them. Assumes nothing.
use Rattle.choice.proofs.CapacitiesLaws.{Goes}
use Rattle.choice.proofs.capacities.choose.Given as goal

abbrev pub invariant-loop-k : goal.invariant-loop-k
invariant-loop-k l = Goes l.fn.plan l.servers l.plan l.k
