-- The check of a state over lent arrays, and the columns that it reads on its way.
-- Inner: no promise of an entry names this.
use Rattle.std.specs.Prelude.{◌≡◌, true, false, Option, Some, None}
use Rattle.plan.specs.Filled.{ColumnsOf}
use Rattle.plan.specs.declared.Columns.{Columns}
use Rattle.dispatcher.specs.declared.Dispatcher.{Dispatcher}
use Rattle.dispatcher.specs.Valid.{state_ok}

-- a state in its ranges has the columns of its plan's guests
pub record InRange (d : Dispatcher) (c : Columns) : Type 0 where
  pub okay : state_ok d ≡ true
  pub columns : ColumnsOf d.plan.guests d.plan.count c

-- the outcome of the check of a state
abbrev pub Examines : Dispatcher → Option Columns → Type 0
Examines d None = state_ok d ≡ false
Examines d (Some c) = InRange d c
