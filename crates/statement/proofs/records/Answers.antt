-- Nothing is refused, so the length is right and every block's record is made.
use Rattle.std.proofs.Common.{arith}
use Rattle.blockfile.proofs.File.{file_in}
use Rattle.planfile.proofs.Records.{plan_fine}
use Rattle.statement.proofs.records.Goals as goal

pub records_of-guests-requires : goal.records_of-guests-requires
records_of-guests-requires c = let z = (file_in c.args.plan.now c.requires).size in omega arith

pub overflow_cast-result : goal.overflow_cast-result
overflow_cast-result c = let z = (file_in c.args.plan.now c.requires).size in omega arith

pub returns : goal.returns
returns c = rw c.records_of-guests.ensures (plan_fine c.args.plan.now c.requires)
