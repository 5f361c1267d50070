-- A turn counts one entry more.
use mathlib.Core.Path.{◌∙◌}
use Prim.Native.Nat.{◌+◌}
use Rattle.statement.proofs.CountingLaws.{none_counted, room_for, counted_next}
use Rattle.statement.proofs.counting.count_all.Goals as goal

pub loop-i-init : goal.loop-i-init
loop-i-init c = none_counted _ _ _

pub count-requires : goal.count-requires
count-requires c =
    let C = c.requires.0 in
    let R = c.requires.1.1 in (
      c.requires.1.0 + c.loop-i.i,
      rw (c.entry_of.ensures, c.loop-i.invariant) (room_for _ _ C c.loop-i-test.true c.args.running.now R.0 R.1),
    )

pub loop-i-preserved : goal.loop-i-preserved
loop-i-preserved c =
    c.count.ensures
    ∙ rw (c.entry_of.ensures, c.loop-i.invariant) (counted_next _ _ c.requires.0 c.loop-i-test.true c.args.running.now)
