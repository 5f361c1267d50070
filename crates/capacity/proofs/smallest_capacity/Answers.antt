-- `capacity::smallest_capacity` meets its promise: the search for the guest at its seat. Assumes nothing.
use Rattle.std.proofs.lemmas.Result.{err_from_is_err_and}
use mathlib.Core.Path.{◌≡◌, ◌∙◌}
use Rattle.capacity.specs.Capacity.{smallest}
use Rattle.plan.proofs.LookUp.{look_order, look_here, look_few}
use Rattle.response.proofs.SeatLaws.{sits_seated, sits_in}
use Rattle.capacity.proofs.Answer.{capacity_refused, capacity_found}
use Rattle.capacity.proofs.Capacity.{smallest_is}
use Rattle.capacity.proofs.smallest_capacity.Goals as goal

pub returns-in_err-seat : goal.returns-in_err-seat
returns-in_err-seat g c =
    let e = err_from_is_err_and c.from_residual.result c.from_residual.ensures.1 in
    rw (e.1, e.2) (capacity_refused _ _ c.in_err-seat.ensures)

pub guest-g-requires : goal.guest-g-requires
guest-g-requires g c = look_few _ _ c.in_ok-seat.ensures.looks

pub smallest_at-requires : goal.smallest_at-requires
smallest_at-requires g c =
    let t = c.in_ok-seat.ensures in
    rw c.guest-g.ensures (sits_seated t, (sits_in t).head.many)

pub returns : goal.returns
returns g c =
    let t = c.in_ok-seat.ensures in
    let p = g.P.AsPlan.plan c.args.plan.now in
    let found : c.smallest_at.result ≡ smallest p c.in_ok-seat.seat.place =
    rw c.guest-g.ensures at c.smallest_at.ensures
    ∙ smallest_is p (look_order _ _ t.looks) t.servers c.in_ok-seat.seat.place (look_here _ _ t.looks) in
    rw c.ok_or.ensures.value (capacity_found p c.args.id t.looks found)
