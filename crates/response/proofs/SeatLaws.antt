-- What a seat says. Assumes nothing.
use Prim.Native.Nat.{ℕ}
use Rattle.plan.specs.declared.Plan.{Plan}
use Rattle.plan.specs.Records.{guest_at}
use Rattle.response.specs.declared.seat.Seat.{Seat}
use Rattle.response.specs.Ready.{Seated}
use Rattle.response.specs.Seat.{SitsAt, SeatIn}
use Rattle.plan.proofs.LookUp.{look_order, look_here}
use Rattle.plan.proofs.RangesLaws.{GuestIn}
use Rattle.response.proofs.ReadyLaws.{seated_at}

module _ {p : Plan} {id : ℕ} {s : Seat} (t : SitsAt p id s) where
  -- the guest is seated among the plan's servers
  pub sits_seated : Seated (guest_at p.guests s.place) s.servers s.place
  sits_seated = seated_at p t.servers (look_order p id t.looks) s.place (look_here p id t.looks)

  -- the guest's record is in its ranges
  pub sits_in : GuestIn (guest_at p.guests s.place)
  sits_in = (look_order p id t.looks).guests s.place (look_here p id t.looks)

  -- the servers up to the guest are in their ranges
  pub sits_servers : SeatIn s
  sits_servers = let q = sits_seated in record { place = q.place; ranged = q.ranged; late = q.late }
