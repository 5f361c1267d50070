-- The loop's invariant: `ok` says whether the words passed are zero.
use Rattle.std.proofs.Common.{◌≡◌, ◌+◌, eqb}
use Rattle.lists.specs.All.{all_to}
use Rattle.words.specs.Word.{word}
use Rattle.block.proofs.reader.zero_between.Given as goal

abbrev pub invariant-loop-k : goal.invariant-loop-k
invariant-loop-k l = l.ok ≡ all_to (λ j. eqb (word l.b (l.from + j)) 0) l.k
