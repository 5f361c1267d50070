-- `words::sum_words` meets its contract: a turn adds one word modulo 2 to the 32. Assumes nothing.
use Rattle.std.proofs.Common.{◌≡◌}
use Rattle.words.specs.Word.{word}
use Rattle.words.specs.Wrap.{wrapped}
use Rattle.words.proofs.sum_words.Given as goal

abbrev pub invariant-loop-k : goal.invariant-loop-k
invariant-loop-k l = l.sum ≡ wrapped (word l.b) l.k
