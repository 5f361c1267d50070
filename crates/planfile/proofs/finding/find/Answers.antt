-- `planfile::finding::find` meets its contract: the block at the place that was found. Assumes nothing.
use Rattle.std.proofs.Common.{◌∙◌, refl, arith}
use Rattle.plan.proofs.First.{ok_says, err_says}
use Rattle.planfile.proofs.Finder.{found_none, found_there, found_within}
use Rattle.planfile.proofs.finding.find.Goals as goal

pub block_at-requires : goal.block_at-requires
block_at-requires c =
    let o = ok_says _ c.in-Ok.ensures in
    omega (arith, o, found_within c.args.bytes.now c.args.id o.0)

pub returns-in-Ok : goal.returns-in-Ok
returns-in-Ok c =
    let o = ok_says _ c.in-Ok.ensures in
    rw o.1 at c.block_at.ensures ∙ found_there c.args.bytes.now c.args.id _ refl (omega (arith, o.0))

pub returns-in-Err : goal.returns-in-Err
returns-in-Err c =
    found_none c.args.bytes.now c.args.id _ refl (err_says _ _ c.in-Err.ensures).1
