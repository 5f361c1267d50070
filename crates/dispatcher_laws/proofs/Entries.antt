-- The calls of a tick and of a run, by whether they are refused. Assumes nothing.
use mathlib.Core.Path.{◌≡◌, refl, ap, ◌∙◌}
use mathlib.Core.Bool.{Bool, true, false}
use mathlib.Core.List.{[], ◌∷◌}
use Prim.Native.Nat.{ℕ, zero, suc, ◌+◌, ◌≤◌, ◌<◌}
use native.Mathlib.Omega.{arith}
use lib.Dec.{leb}
use borrow.Author.Tests.{le-leb, lt-leb}
use Rattle.lists.specs.Choice.{pick}
use Rattle.lists.specs.Refusals.{refusal, ◌or_refuse◌}
use Rattle.plan.specs.First.{refused}
use Rattle.dispatcher.specs.declared.Dispatcher.{Dispatcher}
use Rattle.dispatcher.specs.declared.Answer.{Answer}
use Rattle.dispatcher.specs.declared.Answer.TheVariants.{Silent}
use Rattle.dispatcher.specs.Valid.{state_ok}
use Rattle.dispatcher.specs.Tick.{next}
use Rattle.dispatcher.specs.Answer.{answer, finishes}
use Rattle.dispatcher.specs.Run.{ran_to, run_from, run_for}
use Rattle.dispatcher.specs.Entries.{longest_run, ticked_by, tick, ran_by, run}
use Rattle.lists.proofs.Refusals.{none_left, go_on, stop}

-- ---- a tick
-- A tick of a state in its ranges has no number.
tick_number : (d : Dispatcher) → state_ok d ≡ true → refusal (state_ok d or_refuse 14 ∷ []) ≡ 0
tick_number d e = go_on 14 [] e ∙ none_left

module _ (d : Dispatcher) (ok : state_ok d ≡ true) where
  -- A tick of a state in its ranges hands back the rule's answer.
  pub tick_answer : (tick d).answer ≡ answer d
  unfolding tick ticked_by
  tick_answer = ap (λ (n : ℕ). (ticked_by n d).answer) (tick_number d ok)

  -- A tick of a state in its ranges hands back the next state.
  pub tick_state : (tick d).state ≡ next d
  unfolding tick ticked_by
  tick_state = ap (λ (n : ℕ). (ticked_by n d).state) (tick_number d ok)

  -- A tick of a state in its ranges is not refused.
  pub tick_fine : (tick d).refusal.number ≡ 0
  unfolding tick ticked_by
  tick_fine = ap (λ (n : ℕ). (ticked_by n d).refusal.number) (tick_number d ok)

-- A tick that is refused hands the state back.
pub tick_same : (n : ℕ) (d : Dispatcher) → 0 < (ticked_by n d).refusal.number → (ticked_by n d).state ≡ d
unfolding ticked_by
tick_same zero d h = absurd (omega arith)
tick_same (suc n) d h = refl

-- ---- a run
-- A run of at most 1,000,000 ticks of a state in its ranges has no number.
run_number : (n : ℕ) (d : Dispatcher) → state_ok d ≡ true → n ≤ longest_run → refusal (state_ok d or_refuse 14 ∷ leb n longest_run or_refuse 13 ∷ []) ≡ 0
run_number n d ok h = go_on 14 _ ok ∙ go_on 13 [] (le-leb n longest_run h) ∙ none_left

-- A longer run of a state in its ranges has 13.
run_too_long : (n : ℕ) (d : Dispatcher) → state_ok d ≡ true → longest_run < n → refusal (state_ok d or_refuse 14 ∷ leb n longest_run or_refuse 13 ∷ []) ≡ 13
run_too_long n d ok h = go_on 14 _ ok ∙ stop 13 [] (lt-leb n longest_run h)

-- A run of at most 1,000,000 ticks of a state in its ranges is the rule's run.
pub run_fine : (n : ℕ) (d : Dispatcher) → state_ok d ≡ true → n ≤ longest_run → run d n ≡ run_for n d
unfolding run ran_by
run_fine n d ok h = ap (λ (x : ℕ). ran_by x d n) (run_number n d ok h)

-- A run of more than 1,000,000 ticks is refused, and does nothing.
pub run_13 :
    (n : ℕ) (d : Dispatcher)
    → state_ok d ≡ true
    → longest_run < n
    → run d n ≡ record { refusal = refused 13 0; done = 0; answer = Silent; state = d }
unfolding run ran_by
run_13 n d ok h = ap (λ (x : ℕ). ran_by x d n) (run_too_long n d ok h)

-- The rule's run has no number.
ran_fine : (n m : ℕ) (a : Answer) (d : Dispatcher) → (run_from n m a d).refusal.number ≡ 0
unfolding run_from
ran_fine zero m a d = refl
ran_fine (suc n) m a d = go (finishes (answer d)) (ran_fine n (m + 1) (answer d) (next d))
  where
    go : (b : Bool) → (run_from n (m + 1) (answer d) (next d)).refusal.number ≡ 0
        → (pick b (ran_to (m + 1) (answer d) (next d)) (run_from n (m + 1) (answer d) (next d))).refusal.number ≡ 0
    go true e = refl
    go false e = e

-- A run that is refused hands the state back.
pub run_same : (x : ℕ) (d : Dispatcher) (n : ℕ) → 0 < (ran_by x d n).refusal.number → (ran_by x d n).state ≡ d
unfolding ran_by run_for
run_same zero d n h = absurd (omega (arith, ran_fine n 0 Silent d))
run_same (suc x) d n h = refl
