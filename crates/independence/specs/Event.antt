-- What a guest can tell of a history: how its releases were answered, and what became of each tick.
use Rattle.std.specs.Prelude.{ℕ, ℤ}

-- One thing that the guest can tell.
pub data Event : Type 0 where
  -- The guest's release of that task was answered by that number, 0 for taken.
  answered : (task number : ℕ) → Event
  -- A tick was not its own: another guest had it, or nobody.
  elsewhere : Event
  -- It had a tick, and idled it away.
  idled : Event
  -- It had a tick, and that task worked.
  worked : (task : ℕ) → Event
  -- It had a tick, and that task's job was finished at that age, with that margin.
  finished : (task age : ℕ) (margin : ℤ) → Event
