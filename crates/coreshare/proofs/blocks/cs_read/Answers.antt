-- `cs_read` meets its promise: the records, or the refusal with zeros. Assumes nothing.
use Rattle.std.proofs.Common.{◌∙◌, ap}
use Rattle.plan.proofs.First.{ok_says, err_says}
use Rattle.plan.specs.First.{fine}
use Rattle.planfile.proofs.Records.{reading, read_refused, read_unrefused}
use Rattle.planfile.specs.Records.{read_of}
use Rattle.coreshare.proofs.blocks.cs_read.Goals as goal

pub returns-in-Ok : goal.returns-in-Ok
unfolding read_of
returns-in-Ok c =
    let o = ok_says _ c.in-Ok.ensures in ap (reading fine) o.1 ∙ read_unrefused c.args.bytes.now o.0

pub returns-in-Err : goal.returns-in-Err
unfolding read_of
returns-in-Err c =
    let x = err_says _ _ c.in-Err.ensures in rw (x.0, c.blank_plan.ensures) (read_refused c.args.bytes.now x.1)
