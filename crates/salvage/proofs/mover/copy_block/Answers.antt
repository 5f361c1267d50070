-- `salvage::mover::copy_block` meets its contract: after i turns the first i bytes are the block's. Assumes nothing.
use Rattle.std.proofs.Common.{refl, arith, length-set, rules}
use Rattle.salvage.proofs.Moving.{copy_turn, copy_done}
use Rattle.salvage.proofs.mover.copy_block.Goals as goal

pub loop-i-preserved : goal.loop-i-preserved
loop-i-preserved c =
    let l = c.loop-i in
    let a = c.args in (
      copy_turn l.i a.block.now a.out.now l.out _ (omega arith) (omega arith) l.invariant.0 refl,
      simp length-set l.invariant.1,
    )

pub returns : goal.returns
returns c =
    let l = c.loop-i in
    copy_done l.i c.args.block.now c.args.out.now l.out (omega arith) (search rules) l.invariant.0
