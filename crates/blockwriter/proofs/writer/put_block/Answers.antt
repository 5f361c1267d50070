-- `blockwriter::writer::put_block` meets its contract: the entries, and the check past them. Assumes nothing.
use mathlib.Core.Path.{◌∙◌}
use lib.ListN.{drop}
use Rattle.block.specs.Layout.{block_size}
use Rattle.blockwriter.specs.Writing.{words_of, block_of}
use Rattle.blockparts.proofs.Parts.{check_laid}
use Rattle.blockwriter.proofs.Writing.{words_length}
use Rattle.blockwriter.proofs.writer.put_block.Goals as goal

pub returns : goal.returns
unfolding block_of
returns c =
    let a = c.args in
    c.put_check.ensures
    ∙ check_laid (words_of a.g.now a.place) _ (drop block_size a.buf.now) (words_length a.g.now a.place)
    c.put_entries.ensures
