-- `salvage::sifter::sift` meets its contract: after k turns the first k blocks are gone through. Assumes nothing.
use Rattle.std.proofs.Common.{length, ap, arith}
use Rattle.salvage.proofs.Sifting.{standing_none, few_places, place_below, turn_kept, turn_dropped}
use Rattle.salvage.proofs.sifter.sift.Goals.{in-Ok, in-Err}
use Rattle.salvage.proofs.sifter.sift.Goals as goal

pub loop-k-init : goal.loop-k-init
loop-k-init c = rw c.none-kept.ensures (standing_none c.args.file.now)

pub number_after-requires : goal.number_after-requires
number_after-requires c =
    rw c.places-before.ensures (omega arith, λ j h. omega (arith, place_below _ _ c.loop-k.invariant j h))

pub overflow_cast-fates : goal.overflow_cast-fates
overflow_cast-fates c = omega (arith, ap length c.places-before.ensures, few_places _ _ c.loop-k.invariant)

pub push-requires : goal.push-requires
push-requires c = omega (arith, few_places _ _ c.loop-k.invariant)

pub loop-k-preserved : goal.loop-k-preserved
loop-k-preserved c =
    let t = c.loop-k.invariant in
    let p = c.places-before.ensures in
    elim c.match-number_after.branch [
      | in-Ok w ↦
          rw (w.kept-is, w.fates-is, w.push.ensures)
          (turn_kept _ _ t (omega arith) (omega (arith, ap length p)) (rw p at w.in-Ok.ensures))
      | in-Err w ↦
          rw (w.kept-is, w.fates-is) (turn_dropped _ _ t (omega arith) (rw p at w.in-Err.ensures))
    ]
