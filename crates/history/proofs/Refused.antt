-- A refused call changes nothing; a state that is refused stays so, and a refused start is of no use. Assumes nothing.
use mathlib.Core.Path.{◌≡◌, refl, ap, ◌∙◌}
use mathlib.Core.Bool.{false}
use mathlib.Core.List.{List, [], ◌∷◌}
use Prim.Native.Nat.{ℕ, ◌-◌, ◌<◌}
use native.Mathlib.Omega.{arith}
use Rattle.plan.specs.declared.Plan.{Plan}
use Rattle.plan.specs.Periodic.{start_refusal}
use Rattle.plan.specs.Place.{place_of}
use Rattle.dispatcher.specs.declared.Dispatcher.{Dispatcher}
use Rattle.dispatcher.specs.Valid.{state_ok}
use Rattle.dispatcher.specs.Fresh.{fresh}
use Rattle.dispatcher.specs.Release.{release_number, released_by, release}
use Rattle.dispatcher.specs.Entries.{ticked_by, tick, ran_by, run}
use Rattle.history.specs.Calls.{Call, releasing, ticking, running, sheeting, start, after, play, call_number}
use Rattle.lists.proofs.Refusals.{stop}
use Rattle.dispatcher_laws.proofs.Entries.{tick_same, run_same}
use Rattle.dispatcher_laws.proofs.Fresh.{blank_refused, start_by}
use Rattle.dispatcher_laws.proofs.Release.{release_14, release_same}
use Rattle.sheet.proofs.Entry.{sheet_14, sheet_same}

-- Every call of a state outside its ranges is refused as 14.
pub refused_14 : (c : Call) (d : Dispatcher) → state_ok d ≡ false → call_number c d ≡ 14
unfolding call_number release released_by tick ticked_by run ran_by
refused_14 (releasing id task) d e =
    ap (λ (n : ℕ). (released_by n d (place_of d.plan id) (task - 1)).refusal.number) (release_14 d id task e)
refused_14 ticking d e = ap (λ (n : ℕ). (ticked_by n d).refusal.number) (stop 14 [] e)
refused_14 (running n) d e = ap (λ (x : ℕ). (ran_by x d n).refusal.number) (stop 14 _ e)
refused_14 (sheeting pairs room) d e = sheet_14 d pairs room e

-- No call changes a state outside its ranges.
pub after_14 : (c : Call) (d : Dispatcher) → state_ok d ≡ false → after c d ≡ d
unfolding after release released_by tick ticked_by run ran_by
after_14 (releasing id task) d e =
    ap (λ (n : ℕ). (released_by n d (place_of d.plan id) (task - 1)).state) (release_14 d id task e)
after_14 ticking d e = ap (λ (n : ℕ). (ticked_by n d).state) (stop 14 [] e)
after_14 (running n) d e = ap (λ (x : ℕ). (ran_by x d n).state) (stop 14 _ e)
after_14 (sheeting pairs room) d e = sheet_same d pairs room (omega (arith, sheet_14 d pairs room e))

-- No history changes a state outside its ranges.
refused_played : (cs : List Call) (d : Dispatcher) → state_ok d ≡ false → play cs d ≡ d
unfolding play
refused_played [] d e = refl
refused_played (c ∷ cs) d e = ap (play cs) (after_14 c d e) ∙ refused_played cs d e

-- After a start that was refused, every call of any history is refused as 14.
pub refused_start :
    (p : Plan) → 0 < (start_refusal p).number → (cs : List Call) (c : Call) → call_number c (play cs (start p)) ≡ 14
unfolding fresh
refused_start p h cs c =
    let e : state_ok (start p) ≡ false = ap state_ok (start_by (start_refusal p).number p h) ∙ blank_refused in
    refused_14 c (play cs (start p)) (ap state_ok (refused_played cs (start p) e) ∙ e)

-- A refused call, whatever its number, hands the state back as it was.
pub alters_nothing : (c : Call) (d : Dispatcher) → 0 < call_number c d → after c d ≡ d
unfolding after call_number release tick run
alters_nothing (releasing id task) d h = release_same (release_number d id task) d (place_of d.plan id) (task - 1) h
alters_nothing ticking d h = tick_same _ d h
alters_nothing (running n) d h = run_same _ d n h
alters_nothing (sheeting pairs room) d h = sheet_same d pairs room h
