-- `blockwriter::writer::put_entries` meets its contract: a turn puts in one entry. Assumes nothing.
use Rattle.std.proofs.Common.{◌≡◌, drop, replicate}
use Rattle.lists.specs.Places.{nth}
use Rattle.block.specs.Layout.{block_size, block_words, first_task}
use Rattle.blockparts.specs.Parts.{with_entries}
use Rattle.blockparts.proofs.Parts.{laid}
use Rattle.blockwriter.specs.Writing.{with_head}
use Rattle.blockwriter.proofs.writer.put_entries.Given as goal

abbrev pub invariant-loop-i : goal.invariant-loop-i
invariant-loop-i l =
    l.buf
    ≡ laid
    (with_entries first_task (nth l.g.run) (nth l.g.every) (nth l.g.deadline) l.i
    (with_head l.g l.place (replicate block_words 0)))
    (drop block_size l.fn.buf)
