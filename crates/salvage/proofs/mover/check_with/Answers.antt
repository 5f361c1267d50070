-- `salvage::mover::check_with` meets its contract: what the opening gains the check loses. Assumes nothing.
use Rattle.std.proofs.Common.{◌+◌, ◌%◌, refl, arith}
use Rattle.words.specs.Word.{word_wrap}
use Rattle.salvage.proofs.Moving.{check_is}
use Rattle.salvage.proofs.mover.check_with.Goals as goal

pub returns : goal.returns
returns c =
    check_is c.args.block.now c.args.opening c.word_at-check.result c.word_at-old.result
    ((c.word_at-check.result + c.word_at-old.result) % word_wrap) _ (omega arith) c.requires (omega arith)
    c.word_at-check.ensures c.word_at-old.ensures refl (omega arith) (omega arith)
