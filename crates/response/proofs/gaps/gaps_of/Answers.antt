-- `response::gaps::gaps_of` meets its contract: without marks each of the gaps is the guest's. Assumes nothing.
use Rattle.response.proofs.GapsLaws.{gaps_unmarked}
use Rattle.response.proofs.gaps.gaps_of.Goals as goal

pub returns-then-marks-lt1 : goal.returns-then-marks-lt1
returns-then-marks-lt1 c = gaps_unmarked _ _ _ c.requires c.if-marks-lt1.true
