-- A turn releases one pair more; the state meanwhile is in its ranges, so the pair is judged by it.
use Rattle.std.proofs.Common.{arith}
use Rattle.sheet.proofs.Sheet.{taken_none, ok_meanwhile, taken_next}
use Rattle.sheet.proofs.pairs.take_all.Goals as goal

pub loop-i-init : goal.loop-i-init
loop-i-init c = λ p left position usage S ok. taken_none _ _ _

pub loop-i-preserved : goal.loop-i-preserved
loop-i-preserved c =
    λ p left position usage S ok.
    let T = c.loop-i.invariant p left position usage S ok in
    rw (c.unwrap_or.ensures, c.err.ensures.value)
    (taken_next (omega (arith, c.requires)) T c.take.result
    (c.take.ensures p left position usage S (ok_meanwhile ok T)))
