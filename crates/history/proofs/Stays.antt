-- A state in its ranges stays so over every call, and from a fresh start that is not refused 14 is never given.
-- Assumes nothing.
use mathlib.Core.Path.{◌≡◌, refl, sym, ap, ◌∙◌}
use mathlib.Core.Bool.{true}
use mathlib.Core.List.{List, [], ◌∷◌}
use Prim.Native.Nat.{ℕ, zero, suc, ◌≤◌}
use native.Mathlib.Decide.{dec_le}
use native.Mathlib.Omega.{arith}
use Rattle.plan.specs.declared.Plan.{Plan}
use Rattle.dispatcher.specs.declared.Dispatcher.{Dispatcher}
use Rattle.dispatcher.specs.declared.Ran.{Ran}
use Rattle.dispatcher.specs.Valid.{state_ok}
use Rattle.dispatcher.specs.Tick.{next}
use Rattle.dispatcher.specs.Run.{ticks}
use Rattle.dispatcher.specs.Release.{release}
use Rattle.dispatcher.specs.Entries.{run, longest_run}
use Rattle.history.specs.Calls.{Call, releasing, ticking, running, sheeting, start, after, play, times, ticks_of, call_number, CanStart}
use Rattle.history.specs.Runs.{RunIs}
use Rattle.history.proofs.Ticks.{singles_length, run_by}
use Rattle.history.proofs.Play.{ticking_done, running_done}
use Rattle.dispatcher_laws.proofs.Entries.{tick_state, tick_fine, run_13}
use Rattle.dispatcher_laws.proofs.Fresh.{fresh_idle, sound_idle}
use Rattle.dispatcher_laws.proofs.Release.{release_number_lem, release_took, not_number, ok_took}
use Rattle.dispatcher_laws.proofs.Valid.{ok_next, ok_ticks}
use Rattle.sheet.proofs.Entry.{sheet_ok, sheet_not_14}

-- A state in its ranges stays so over any call.
pub stays : (c : Call) (d : Dispatcher) → state_ok d ≡ true → state_ok (after c d) ≡ true
unfolding after
stays (releasing id task) d ok = ok_took d id task (release d id task) ok (release_took d id task)
stays ticking d ok = rw (ticking_done d ok) (ok_ticks (ticks_of ticking d) d ok)
stays (running n) d ok = rw (running_done n d ok) (ok_ticks (ticks_of (running n) d) d ok)
stays (sheeting pairs room) d ok = sheet_ok d pairs room ok

-- A state in its ranges stays so over any history.
pub stays_played : (cs : List Call) (d : Dispatcher) → state_ok d ≡ true → state_ok (play cs d) ≡ true
unfolding play
stays_played [] d ok = ok
stays_played (c ∷ cs) d ok = stays_played cs (after c d) (stays c d ok)

-- A state in its ranges is not refused as 14 by any call.
pub not_14 : (c : Call) (d : Dispatcher) → state_ok d ≡ true → call_number c d ≡ 14 → ⊥
unfolding call_number
not_14 (releasing id task) d ok e = not_number d id task ok (sym (release_number_lem d id task) ∙ e)
not_14 ticking d ok e = omega (arith, tick_fine d ok)
not_14 (sheeting pairs room) d ok e = sheet_not_14 d pairs room ok e
not_14 (running n) d ok e =
    elim (dec_le n longest_run) [
      | yes h ↦ omega (arith, (run_by n d ok h).fine)
      | no h ↦ omega (arith, ap (λ (r : Ran). r.refusal.number) (run_13 n d ok (omega arith)))
    ]

-- A fresh start that is not refused is in its ranges.
pub start_ok_lem : (p : Plan) → CanStart p → state_ok (start p) ≡ true
start_ok_lem p e = rw (fresh_idle p e) (sound_idle p e).ok

-- From a fresh start that is not refused no call of any history is refused as 14.
pub never_14 :
    (p : Plan) → CanStart p → (cs : List Call) (c : Call) → call_number c (play cs (start p)) ≡ 14 → ⊥
never_14 p e cs c = not_14 c (play cs (start p)) (stays_played cs (start p) (start_ok_lem p e))

-- As many calls of a tick are as many ticks of the rule.
times_ticks : (n : ℕ) (d : Dispatcher) → state_ok d ≡ true → play (times n) d ≡ ticks n d
unfolding play times ticks after
times_ticks zero d ok = refl
times_ticks (suc n) d ok = ap (play (times n)) (tick_state d ok) ∙ times_ticks n (next d) (ok_next d ok)

-- A run of at most 1,000,000 ticks, in a state in its ranges, is that many single ticks.
pub run_is_ticks : (n : ℕ) (d : Dispatcher) → state_ok d ≡ true → n ≤ longest_run → RunIs n d
run_is_ticks n d ok h =
    let R = run_by n d ok h in
    record {
      fine = R.fine;
      most = R.most;
      state = R.state ∙ sym (times_ticks (run d n).done d ok);
      count = singles_length (run d n).done d ok;
      nothing = R.nothing;
      last = R.last;
      early = R.early;
      ends = R.ends;
    }
