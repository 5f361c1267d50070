-- How a call comes to its whole outcome. Assumes nothing.
use mathlib.Core.Path.{◌≡◌, refl, sym, ◌∙◌}
use mathlib.Core.Bool.{Bool, true, false}
use mathlib.Core.List.{[]}
use Prim.Native.Nat.{ℕ, zero, suc, ◌≤◌, ◌<◌}
use native.Mathlib.Omega.{arith}
use borrow.Author.Tests.{le-leb, lt-leb}
use Rattle.lists.specs.Choice.{pick}
use Rattle.std.specs.Prelude.{Result, Ok, Err, unwrap_or}
use Rattle.std.specs.Result.{result_err, result_unwrap_or}
use Rattle.plan.specs.First.{refused, fine}
use Rattle.dispatcher.specs.declared.RunOutcome.{RunOutcome}
use Rattle.dispatcher.specs.InPlace.{ran_in}
use Rattle.dispatcher.specs.declared.Dispatcher.{Dispatcher}
use Rattle.steps.specs.declared.Turn.{Turn}
use Rattle.dispatcher.specs.declared.Answer.{Answer}
use Rattle.dispatcher.specs.declared.Answer.TheVariants.{Silent}
use Rattle.dispatcher.specs.declared.Ticked.{Ticked}
use Rattle.dispatcher.specs.declared.Ran.{Ran}
use Rattle.dispatcher.specs.Valid.{state_ok}
use Rattle.dispatcher.specs.Tick.{next}
use Rattle.dispatcher.specs.Answer.{answer, finishes}
use Rattle.dispatcher.specs.Run.{ran_to, run_from, run_for}
use Rattle.dispatcher.specs.Lent.{last_by, Gone}
use Rattle.dispatcher.specs.Entries.{ticked_by, tick, longest_run, ran_by, run}
use Rattle.lists.proofs.Refusals.{none_left, go_on, stop}

-- A run of a state outside its ranges is refused as 14.
pub run_refused : (d : Dispatcher) (n : ℕ) → state_ok d ≡ false → ◌≡◌ {A = Ran} (record { refusal = refused 14 0; done = 0; answer = Silent; state = d }) (run d n)
unfolding run ran_by
run_refused d n e = rw (stop 14 _ e) refl

-- A run of too many ticks is refused as 13.
pub run_long : (d : Dispatcher) (n : ℕ) → state_ok d ≡ true → longest_run < n → ◌≡◌ {A = Ran} (record { refusal = refused 13 0; done = 0; answer = Silent; state = d }) (run d n)
unfolding run ran_by
run_long d n e h = rw (go_on 14 _ e ∙ stop 13 [] (lt-leb n longest_run h)) refl

-- A run that is not refused is the rule's run.
run_is : (d : Dispatcher) (n : ℕ) → state_ok d ≡ true → n ≤ longest_run → run_for n d ≡ run d n
unfolding run ran_by
run_is d n e h = rw (go_on 14 _ e ∙ go_on 13 [] (le-leb n longest_run h) ∙ none_left) refl

-- The last answer, where some tick was done, is that of the last state before the end.
last_some : (done : ℕ) (d : Dispatcher) → 0 < done → last_by done d ≡ answer d
unfolding last_by
last_some zero d h = absurd (omega arith)
last_some (suc n) d h = refl

module _ {d after : Dispatcher} {n done : ℕ} {t : Turn} (e : state_ok d ≡ true) (h : n ≤ longest_run) (g : Gone d n done t after) where
  -- Where no tick was done, the run reports none.
  pub run_idle : done < 1 → ◌≡◌ {A = Ran} (record { refusal = fine; done = 0; answer = Silent; state = after }) (run d n)
  unfolding last_by
  run_idle l = let z : done ≡ 0 = omega arith in sym (rw z at g.ran) ∙ run_is d n e h

  -- Where some tick was done, the run reports them and the last answer.
  pub run_done : {a : Answer} → 1 ≤ done → a ≡ answer g.before → ◌≡◌ {A = Ran} (record { refusal = fine; done = done; answer = a; state = after }) (run d n)
  run_done l q = rw (q, ← last_some done g.before l) (sym g.ran ∙ run_is d n e h)

-- what a run says of its last tick
abbrev pub tick_of : Ran → Ticked
tick_of r = record { refusal = r.refusal; answer = r.answer; state = r.state }

-- A run of one tick ends after it, whether it finishes a job or not.
run_one : (d : Dispatcher) → tick_of (run_for 1 d) ≡ record { refusal = fine; answer = answer d; state = next d }
unfolding run_for run_from
run_one d = go (finishes (answer d))
  where
    go : (b : Bool) → tick_of (pick b (ran_to 1 (answer d) (next d)) (ran_to 1 (answer d) (next d))) ≡ record { refusal = fine; answer = answer d; state = next d }
    go true = refl
    go false = refl

-- A run of one tick says what a tick says, and is refused where a tick is.
pub tick_of_run : (d : Dispatcher) {r : Ran} → r ≡ run d 1 → tick_of r ≡ tick d
unfolding tick ticked_by
tick_of_run d e = rw e (go (state_ok d) refl)
  where
    go : (b : Bool) → state_ok d ≡ b → tick_of (run d 1) ≡ tick d
    go true h = rw (← run_is d 1 h (omega arith), go_on 14 _ h ∙ none_left) (run_one d)
    go false h = rw (← run_refused d 1 h, stop 14 _ h) refl

-- What a run in place says of its last tick, told by its number, which is 0 where nothing refuses it.
pub tick_told : (r : Result RunOutcome ℕ) (d : Dispatcher)
    → ◌≡◌ {A = Ticked}
    (record {
      refusal = refused (unwrap_or (result_err r) 0) 0;
      answer = (result_unwrap_or r (record { done = 0; answer = Silent })).answer;
      state = d;
    })
    (tick_of (ran_in r d))
tick_told (Ok o) d = refl
tick_told (Err n) d = refl
