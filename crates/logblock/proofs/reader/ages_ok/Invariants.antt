-- `logblock::reader::ages_ok` meets its contract: a turn tests one age more. Assumes nothing.
use mathlib.Core.Path.{◌≡◌}
use Rattle.lists.specs.All.{all_to}
use Rattle.words.specs.Word.{word}
use Rattle.plan.specs.Ranges.{longest, within}
use Rattle.logblock.specs.Layout.{age_word}
use Rattle.logblock.proofs.reader.ages_ok.Given as goal

abbrev pub invariant-loop-i : goal.invariant-loop-i
invariant-loop-i l = l.ok ≡ all_to (λ j. within 1 longest (word l.b (age_word j))) l.i
