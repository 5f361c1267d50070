-- A task that is released again after single ticks: refused by 9 before its period has passed, and taken from then on
-- if it is quoted. Assumes nothing.
use mathlib.Core.Path.{◌≡◌, refl}
use mathlib.Core.Bool.{true}
use mathlib.Core.List.{List}
use Prim.Native.Nat.{ℕ, zero, suc, ◌≤◌, ◌<◌}
use native.Mathlib.Omega.{arith}
use Rattle.plan.specs.declared.Plan.{Plan}
use Rattle.dispatcher.specs.declared.Dispatcher.{Dispatcher}
use Rattle.dispatcher.specs.Release.{release}
use Rattle.dispatcher.specs.Valid.{state_ok}
use Rattle.verdict.specs.Quoted.{Quoted}
use Rattle.history.specs.Calls.{Call, releasing, ticking, start, after, play, released, times, ticks_of, ticks_in, Throughout, NoneTaken, EachRelease, CanStart}
use Rattle.history.specs.Named.{every_by, StartsHere}
use Rattle.history.proofs.Ticks.{tick_one}
use Rattle.history.proofs.Play.{sound_after}
use Rattle.history.proofs.Stays.{stays}
use Rattle.history.proofs.Clocks.{sound_reached}
use Rattle.history.proofs.Again.{nine_exactly}
use Rattle.history.proofs.NeverTurnedAway.{next_taken}

-- Calls of a tick release nothing.
none_in_times : (guest task n : ℕ) (d : Dispatcher) → NoneTaken guest task (times n) d
unfolding times Throughout EachRelease
none_in_times guest task zero d = tt
none_in_times guest task (suc n) d = (tt, none_in_times guest task n (after ticking d))

-- In a state that is not refused n calls of a tick do n ticks.
ticks_in_times : (n : ℕ) (d : Dispatcher) → state_ok d ≡ true → ticks_in (times n) d ≡ n
unfolding times ticks_in ticks_of
ticks_in_times zero d ok = refl
ticks_in_times (suc n) d ok = omega (arith, tick_one d ok, ticks_in_times n (after ticking d) (stays ticking d ok))

-- n single ticks after a taken release, n ticks are done.
ticks_since :
    (p : Plan) (id number : ℕ)
    → CanStart p
    → (cs : List Call) (n : ℕ)
    → ticks_in (times n) (released p id number cs) ≡ n
ticks_since p id number can cs n =
    ticks_in_times n (released p id number cs)
    (sound_after (releasing id number) (play cs (start p)) (sound_reached p can cs)).ok

-- Released again after fewer ticks than its period, a task is refused by 9.
pub early_again :
    (p : Plan) (id number : ℕ)
    → CanStart p
    → (cs : List Call)
    → (release (play cs (start p)) id number).refusal.number ≡ 0
    → (n : ℕ)
    → n < every_by p id number
    → StartsHere p id number (play (times n) (released p id number cs))
    → (release (play (times n) (released p id number cs)) id number).refusal.number ≡ 9
early_again p id number can cs taken-it n h here =
    (nine_exactly p can id number cs taken-it (times n) (none_in_times id number n (released p id number cs))).1
    (here, omega (arith, ticks_since p id number can cs n))

-- Released again after as many ticks as its period or more, a quoted task is taken.
pub due_again :
    (p : Plan) (id number R : ℕ)
    → Quoted p id number R
    → CanStart p
    → (cs : List Call)
    → (release (play cs (start p)) id number).refusal.number ≡ 0
    → (n : ℕ)
    → every_by p id number ≤ n
    → StartsHere p id number (play (times n) (released p id number cs))
    → (release (play (times n) (released p id number cs)) id number).refusal.number ≡ 0
due_again p id number R quoted can cs taken-it n h here =
    next_taken p id number R quoted can cs taken-it (times n) (none_in_times id number n (released p id number cs))
    (omega (arith, ticks_since p id number can cs n)) here
