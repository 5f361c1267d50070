-- `salvage::mover::put_moved` meets its contract: a copy, and the two words that change. Assumes nothing.
use Rattle.std.proofs.Common.{arith, rules}
use Rattle.salvage.proofs.Moving.{moved_laid}
use Rattle.salvage.proofs.mover.put_moved.Goals as goal

pub returns : goal.returns
returns c =
    moved_laid c.args.block.now _ _ _ _ c.args.place c.opening_at-opening.result c.check_with-check.result
    (omega arith) (search rules) c.put_word.ensures c.put_word-2.ensures c.opening_at-opening.ensures
    c.check_with-check.ensures
