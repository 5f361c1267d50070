-- `plan::look_up` meets its contract: in records in order the first guest with the id, else 7. Assumes nothing.
use Rattle.std.proofs.Common.{◌<◌, arith, ap, sym, ◌∙◌}
use Rattle.plan.proofs.LookUp.{looked_found}
use Rattle.plan.proofs.find.look_up.Goals as goal

pub returns-then-guest-id : goal.returns-then-guest-id
returns-then-guest-id g c =
    let p = g.P.AsPlan.plan c.args.plan.now in
    let below : c.loop-k.k < p.count = omega (arith, c.count-k-end.ensures) in
    let same = sym (ap (λ x. x.id) c.guest.ensures) ∙ c.if-guest-id.true in
    looked_found p _ c.in_ok-check.ensures c.loop-k.invariant below same
