-- A turn reads one guest's record, so its numbers are put into the columns, and its id is looked for there.
use Rattle.std.proofs.Common.{arith}
use Rattle.plan.proofs.Filled.{columns_read}
use Rattle.refusals.proofs.Check.{goes_turn}
use Rattle.refusals.proofs.validating.guests_ok.Goals as goal

pub loop-k-preserved : goal.loop-k-preserved
loop-k-preserved g c =
    let a = c.args in
    let s = a.lent.now in
    let p = g.P.AsPlan.plan a.plan.now in
    let k = c.loop-k.k in
    let f = columns_read {gs = p.guests} k (omega arith) c.guest.result c.guest.ensures c.loop-k.invariant.columns in
    record {
      okay = goes_turn p s.left.now s.position.now s.rest.now s.wait.now s.age.now k f.ids c.loop-k.invariant.okay
          c.new_id.ensures (rw (← c.guest.ensures) c.guest_ok.ensures);
      columns = f;
    }
