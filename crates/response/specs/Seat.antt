-- The way in of each call that judges a guest. Inner: no promise of an entry names this.
use Rattle.std.specs.Prelude.{ℕ, ◌+◌, ◌<◌, Result, Ok, Err}
use Rattle.plan.specs.declared.Plan.{Plan}
use Rattle.plan.specs.declared.Refusal.{Refusal}
use Rattle.plan.specs.LookUp.{LooksUp}
use Rattle.plan.specs.Ranges.{most_guests}
use Rattle.response.specs.declared.seat.Seat.{Seat}
use Rattle.response.specs.Columns.{ServersOf}
use Rattle.response.specs.Ready.{EachShort, Ranged}

-- The way in refuses nothing: the guest's place, among the plan's servers.
pub record SitsAt (p : Plan) (id : ℕ) (s : Seat) : Type 0 where
  pub looks : LooksUp p id (Ok s.place)
  pub servers : ServersOf p.guests most_guests s.servers

-- The seat of the guest with an id in a plan, or the refusal by the records' order and then 7.
abbrev pub Sits : Plan → (id : ℕ) → Result Seat Refusal → Type 0
Sits p id (Ok s) = SitsAt p id s
Sits p id (Err r) = LooksUp p id (Err r)

-- The servers up to the guest are in their ranges.
pub record SeatIn (s : Seat) : Type 0 where
  pub place : s.place < most_guests
  pub ranged : Ranged s.servers (s.place + 1)
  pub late : EachShort s.servers.jitters (s.place + 1)
