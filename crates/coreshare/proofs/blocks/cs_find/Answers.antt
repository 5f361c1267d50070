-- `cs_find` meets its promise: the place or the refusal is told. Assumes nothing.
use Rattle.std.proofs.Common.{refl}
use Rattle.plan.proofs.First.{ok_says, err_says}
use Rattle.coreshare.proofs.blocks.cs_find.Goals as goal

pub returns-in-Ok : goal.returns-in-Ok
returns-in-Ok c = let o = ok_says _ c.in-Ok.ensures in rw (o.1, ← o.0) refl

pub returns-in-Err : goal.returns-in-Err
returns-in-Err c = (err_says _ _ c.in-Err.ensures).0
