-- Demand 1: a refusal alters no state and no lent byte. That each entry takes whatever it is handed and ends is what
-- a contract without a requirement says; the order of refusals is the list in the definition, and their causes stand
-- in Causes.
use mathlib.Core.Path.{◌≡◌}
use mathlib.Core.List.{List}
use Prim.Native.Nat.{ℕ, ◌<◌}
use lib.ListN.{length}
use Rattle.plan.specs.Periodic.{start_refusal}
use Rattle.plan.specs.declared.Guest.{Guest}
use Rattle.plan.specs.declared.Plan.{Plan}
use Rattle.blockwriter.specs.Writing.{write_refusal, written}
use Rattle.dispatcher.specs.declared.Dispatcher.{Dispatcher}
use Rattle.history.specs.Calls.{Call, start, after, play, call_number}
use Rattle.blockwriter.proofs.Writing as writing
use Rattle.history.proofs.Refused as refusals

-- The writer leaves every byte as it was.
pub write_alters_nothing :
    (g : Guest) (place : ℕ) (before : List ℕ)
    → 0 < (write_refusal g place (length before)).number
    → written g place before ≡ before
write_alters_nothing = writing.refused_write_same

-- A release, a tick or a run hands the state back as it was.
pub call_alters_nothing : (c : Call) (d : Dispatcher) → 0 < call_number c d → after c d ≡ d
call_alters_nothing = refusals.alters_nothing

-- A refused start gives a state that every call refuses as 14, whatever is called before.
pub refused_start :
    (p : Plan)
    → 0 < (start_refusal p).number
    → (cs : List Call) (c : Call)
    → call_number c (play cs (start p)) ≡ 14
refused_start = refusals.refused_start
