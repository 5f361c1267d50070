-- `blockwriter::writer::put_entries` meets its contract: a turn puts in one entry. Assumes nothing.
use Rattle.std.proofs.Common.{◌≡◌, ◌∙◌, arith}
use Rattle.block.specs.Layout.{first_task}
use Rattle.blockparts.specs.Parts.{with_entries}
use Rattle.blockwriter.specs.Writing.{words_of}
use Rattle.blockparts.proofs.Parts.{entries_laid}
use Rattle.blockwriter.proofs.Writing.{words_count}
use Rattle.blockwriter.proofs.writer.put_entries.Goals as goal

pub loop-i-init : goal.loop-i-init
unfolding with_entries
loop-i-init c = c.put_head.ensures

pub loop-i-preserved : goal.loop-i-preserved
loop-i-preserved c =
    c.put_entry.ensures
    ∙ entries_laid first_task _ _ _ c.loop-i.i _ c.loop-i.buf _ (omega arith) (words_count c.args.g.now c.args.place)
    c.loop-i.invariant

pub returns : goal.returns
unfolding words_of
returns c = let e : c.loop-i.i ≡ c.args.g.now.tasks = omega arith in rw e at c.loop-i.invariant
