-- `words::sum_words` meets its contract: a turn adds one word modulo 2 to the 32. Assumes nothing.
use Rattle.words.specs.Word.{word}
use Rattle.words.proofs.Wrap.{wrapped_none, wrapped_next}
use Rattle.words.proofs.sum_words.Goals as goal

pub loop-k-init : goal.loop-k-init
loop-k-init c = wrapped_none (word c.args.b.now)

pub loop-k-preserved : goal.loop-k-preserved
loop-k-preserved c = wrapped_next (word c.args.b.now) _ _ _ c.loop-k.invariant c.word_at-sum.ensures
