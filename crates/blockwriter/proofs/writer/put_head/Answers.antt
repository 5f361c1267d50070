-- `blockwriter::writer::put_head` meets its contract: zero bytes, and the head's words put in. Assumes nothing.
use Rattle.blockwriter.proofs.Writing.{head_puts}
use Rattle.blockwriter.proofs.writer.put_head.Goals as goal

pub returns : goal.returns
returns c =
    let a = c.args in
    head_puts a.g.now a.place a.buf.now c.put_zeros.new.b c.put_kind.new.buf c.put_word.new.b
    c.put_word-2.new.b c.put_word-3.new.b _ c.requires.1.1.1
    c.put_zeros.ensures c.put_kind.ensures c.put_word.ensures c.put_word-2.ensures
    c.put_word-3.ensures (rw c.from.ensures at c.put_word-4.ensures)
