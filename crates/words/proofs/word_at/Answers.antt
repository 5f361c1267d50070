-- `words::word_at` meets its contract: word k starts at byte 4 k. Assumes nothing.
use Rattle.words.specs.Word.{word}
use Rattle.words.proofs.word_at.Goals as goal

pub returns : goal.returns
unfolding word
returns c = c.get_u32.ensures
