-- The scope's plan whose right side falls, as a system: guest 8/9 above guest 1/11, two tasks of run 1 and period 31.
-- Assumes nothing.
use Rattle.std.specs.Prelude.{Some, None}
use mathlib.Core.Path.{◌≡◌, refl}
use Rattle.lists.specs.Search.{least, first_from}
use Rattle.lists.specs.Sum.{sum_to}
use Rattle.rounding.specs.Up.{up}
use Rattle.rounding.specs.Asked.{asked}
use Rattle.equation.specs.Solve.{solve}
use Rattle.equation.specs.Guest.{guest_side, guest_under}
use Rattle.equation.specs.System.{System, load, right_at, right, response_of, task_under}

-- the lower guest, seen from its tasks
abbrev lower : System
lower = record {
  capacity = 1;
  period = 11;
  above = asked (λ j. 8) (λ j. 9) (λ j. 0) 1;
  run = λ j. 1;
  every = λ j. 31;
  gap = λ j. 10;
}

-- The second task's right side is 20 at 20, 28 at 21 and 23 at 22; its response is 30, which a deadline of 29 does not
-- hold.
record Falls : Type 0 where
  fits : guest_under lower.above 1 11 ≡ Some 9
  at_20 : right lower 1 20 ≡ 20
  at_21 : right lower 1 21 ≡ 28
  at_22 : right lower 1 22 ≡ 23
  responds : task_under lower 1 31 ≡ Some 30
  late : task_under lower 1 29 ≡ None

-- the definitions compute these numbers
falls : Falls
unfolding least first_from sum_to up asked solve guest_side guest_under load right_at right response_of task_under
falls = record { fits = refl; at_20 = refl; at_21 = refl; at_22 = refl; responds = refl; late = refl }
