-- `order::propose` meets its promise: what becomes of the guest is put in its place. Assumes nothing.
use Rattle.plan.specs.Placed.{with_guest}
use Rattle.order.proofs.propose.Goals as goal

pub returns-in-Ok : goal.returns-in-Ok
unfolding with_guest
returns-in-Ok c = c.in-Ok.ensures.1
