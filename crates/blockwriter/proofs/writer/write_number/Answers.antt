-- `blockwriter::writer::write_number` meets its contract: a head that passed has at most 16 tasks, and a period of at
-- least 1. Assumes nothing.
use Rattle.std.proofs.Common.{sym, ◌∙◌, arith}
use Rattle.plan.proofs.RangesLaws.{head_says}
use Rattle.blockwriter.proofs.writer.write_number.Goals as goal

pub tasks_ok-requires : goal.tasks_ok-requires
tasks_ok-requires c =
    let h = head_says _ _ _ _ (sym c.head_ok.ensures ∙ c.if-not-head_ok.false) in (h.few, omega (arith, h.some, h.fits))
