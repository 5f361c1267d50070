-- The check passed, so the guest's record is in its ranges, and its own refusals are what is left.
use Rattle.std.proofs.Common.{◌<◌, arith}
use Rattle.refusals.proofs.Check.{few_guests, records_in_lem}
use Rattle.refusals.proofs.Aims.{aims_on, place_in}
use Rattle.refusals.proofs.aiming.aim_by_id.Goals as goal

pub aim_at-requires : goal.aim_at-requires
aim_at-requires g c =
    let s = (rw c.if-not-examine.false at c.examine.ensures).okay in
    let t = rw c.count-n.ensures at c.if-n-k.false in
    let h : c.place_of-k.result < 8 = omega (arith, few_guests _ _ _ _ _ _ s, t) in
    (h, rw c.guest.ensures (records_in_lem _ _ _ _ _ _ s _ t))

pub returns : goal.returns
returns g c =
    let s = (rw c.if-not-examine.false at c.examine.ensures) in
    aims_on _ _ _ _ _ _ _ _ s.okay (place_in _ s.columns (rw c.count-n.ensures at c.place_of-k.ensures))
    (rw c.count-n.ensures at c.if-n-k.false) _ (rw (← c.guest.ensures) c.aim_at.ensures)
