-- The promises of Word and Dispatcher at a bound task: plan A with guest 9's first task 10/60/60 and bound, which is
-- quoted 24, its window without the gap of 12.
use mathlib.Core.Path.{◌≡◌}
use mathlib.Core.List.{List, []}
use Prim.Native.Nat.{◌≤◌}
use native.Mathlib.Omega.{arith}
use Rattle.dispatcher.specs.Release.{release}
use Rattle.verdict.specs.Quoted.{Quoted}
use Rattle.history.specs.Calls.{Call, play, released, ticks_in, NoneTaken}
use Rattle.history.specs.Finished.{FinishedBy}
use Rattle.history.specs.Named.{position_by}
use Rattle.worked.specs.Plans.{plan_E}
use Rattle.verdict.proofs.Quoted.{met_quoted}
use Rattle.results.proofs.Computed.{computed}
use Rattle.results.proofs.Numbers.{numbers}
use Rattle.results.proofs.Dispatcher.{back_at_0}
use Rattle.results.proofs.Word.{finished_by_R, next_taken}

-- The task is met with 24, so it is quoted 24.
bound_24 : Quoted (plan_E 1) 9 1 24
bound_24 = met_quoted (plan_E 1) 9 1 24 numbers.first_bound_first

-- Released at the start, it has been told finished after 24 ticks, however they are called for.
pub bound_finished :
    (ds : List Call)
    → 24 ≤ ticks_in ds (released (plan_E 1) 9 1 [])
    → FinishedBy 24 60 9 1 ds (released (plan_E 1) 9 1 [])
bound_finished = rw computed.place_E at (finished_by_R (plan_E 1) 9 1 24 bound_24 computed.can_E [] computed.taken_E)

-- When its 60 ticks have passed, its guest, of period 20, stands at position 0 again.
pub bound_back :
    (ds : List Call)
    → ticks_in ds (released (plan_E 1) 9 1 []) ≡ 60
    → position_by (plan_E 1) 9 (play ds (released (plan_E 1) 9 1 [])) ≡ 0
bound_back ds e =
    back_at_0 (plan_E 1) computed.can_E 9 1 [] computed.taken_E ds computed.bound_E 1
    (omega (arith, computed.every_E))

-- So its next release is taken then.
pub bound_again :
    (ds : List Call)
    → NoneTaken 9 1 ds (released (plan_E 1) 9 1 [])
    → ticks_in ds (released (plan_E 1) 9 1 []) ≡ 60
    → (release (play ds (released (plan_E 1) 9 1 [])) 9 1).refusal.number ≡ 0
bound_again ds none e =
    next_taken (plan_E 1) 9 1 24 bound_24 computed.can_E [] computed.taken_E ds none
    (omega (arith, computed.every_E)) (λ b. bound_back ds e)
