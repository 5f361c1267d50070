-- `logblock::writer::put_log` meets its contract: zeros, kind and number of jobs, an entry at each turn, and the check.
-- Assumes nothing.
use mathlib.Core.Path.{◌≡◌, ◌∙◌}
use native.Mathlib.Omega.{arith}
use lib.ListN.{drop}
use Rattle.block.specs.Layout.{block_size}
use Rattle.blockparts.specs.Parts.{with_entries}
use Rattle.logblock.specs.Layout.{first_entry}
use Rattle.logblock.specs.Writing.{log_words}
use Rattle.blockparts.proofs.Parts.{entries_laid}
use Rattle.logblock.proofs.Writing.{opening, opening_length, opening_laid, log_laid}
use Rattle.logblock.proofs.writer.put_log.Goals as goal

pub loop-i-init : goal.loop-i-init
unfolding with_entries
loop-i-init c = λ x t l e. e

pub loop-i-preserved : goal.loop-i-preserved
loop-i-preserved c =
    let l = c.loop-i in
    λ x t n e.
    c.put_entry.ensures
    ∙ entries_laid first_entry _ _ _ l.i x l.buf t (omega (arith, c.requires.1)) n (l.invariant x t n e)

pub returns : goal.returns
unfolding log_words
returns c =
    let a = c.args in
    let t = drop block_size a.buf.now in
    let e : c.loop-i.i ≡ a.jobs.now.count = omega arith in
    c.put_check.ensures
    ∙ log_laid a.jobs.now t c.loop-i.buf
    (rw e at
    (c.loop-i.invariant (opening a.jobs.now) t (opening_length a.jobs.now)
    (opening_laid a.jobs.now t c.put_zeros.new.b _ c.put_zeros.ensures c.put_word.ensures)))
