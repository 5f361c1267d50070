-- `plan::starts_ok` meets its contract: without marks no task is bound. Assumes nothing.
use Rattle.plan.proofs.MarksLaws.{starts_unmarked}
use Rattle.plan.proofs.ranges.starts_ok.Goals as goal

pub returns-then-marks-eq0 : goal.returns-then-marks-eq0
returns-then-marks-eq0 c = starts_unmarked _ _ _ _ c.if-marks-eq0.true
