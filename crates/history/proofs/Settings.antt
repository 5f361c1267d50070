-- A host that sets the numbers beside the state between its calls changes nothing but these numbers. Assumes nothing.
use mathlib.Core.Path.{◌≡◌, refl, ap}
use mathlib.Core.List.{List, [], ◌∷◌}
use Prim.Native.Nat.{ℕ}
use lib.ListN.{length}
use Rattle.dispatcher.specs.declared.Dispatcher.{Dispatcher}
use Rattle.dispatcher_laws.specs.Usage.{with_usage, SameButUsage}
use Rattle.history.specs.Calls.{Call, releasing, ticking, running, sheeting, after, play, listed, ticks_of, answer_of, call_number}
use Rattle.history.specs.Settings.{SameOutcome, Step, calling, setting, handled, calls_in}
use Rattle.dispatcher_laws.proofs.Usage.{release_one, tick_one, run_one}
use Rattle.sheet.proofs.Entry.{sheet_number_same, sheet_one}

-- States that are the same but for these numbers.
module _ (d e : Dispatcher) (S : SameButUsage d e) where
  -- The answer that a call hands back is the same.
  answer_same : (c : Call) → answer_of c d ≡ answer_of c e
  unfolding answer_of
  answer_same (releasing id task) = refl
  answer_same ticking = (tick_one d e S).answer_same
  answer_same (running n) = (run_one d e S n).answer_same
  answer_same (sheeting pairs room) = refl

  -- The number that a call is refused by is the same.
  number_same : (c : Call) → call_number c d ≡ call_number c e
  unfolding call_number
  number_same (releasing id task) = ap (λ r. r.number) (release_one d e S id task).refusal_same
  number_same ticking = ap (λ r. r.number) (tick_one d e S).refusal_same
  number_same (running n) = ap (λ r. r.number) (run_one d e S n).refusal_same
  number_same (sheeting pairs room) = sheet_number_same d e S pairs room

  -- A call does as many ticks.
  ticks_same : (c : Call) → ticks_of c d ≡ ticks_of c e
  unfolding ticks_of
  ticks_same (releasing id task) = refl
  ticks_same ticking = ap (λ a. length (listed a)) (tick_one d e S).answer_same
  ticks_same (running n) = (run_one d e S n).done_same
  ticks_same (sheeting pairs room) = refl

  -- The states after a call are the same but for these numbers.
  after_same : (c : Call) → SameButUsage (after c d) (after c e)
  unfolding after
  after_same (releasing id task) = (release_one d e S id task).state_same
  after_same ticking = (tick_one d e S).state_same
  after_same (running n) = (run_one d e S n).state_same
  after_same (sheeting pairs room) = sheet_one d e S pairs room

  -- A call of states that are the same but for these numbers comes to the same but for them.
  pub same_outcome : (c : Call) → SameOutcome c d e
  same_outcome c = record { answer = answer_same c; number = number_same c; ticks = ticks_same c; state = after_same c }

-- With any numbers beside the state, a call comes to the same but for them.
pub usage_unseen : (c : Call) (d : Dispatcher) (u : List ℕ) → SameOutcome c (with_usage d u) d
usage_unseen c d u = same_outcome (with_usage d u) d (λ v. refl) c

-- Steps of a host lead to the state of its calls alone, but for these numbers.
settings_same :
    (ss : List Step) (d e : Dispatcher)
    → SameButUsage d e
    → SameButUsage (handled ss d) (play (calls_in ss) e)
unfolding handled calls_in play
settings_same [] d e S = S
settings_same (calling c ∷ ss) d e S = settings_same ss (after c d) (after c e) (after_same d e S c)
settings_same (setting u ∷ ss) d e S = settings_same ss (with_usage d u) e (λ v. S v)

-- Numbers that a host sets between calls change nothing but themselves: each call comes to what it would have without
-- them.
pub settings_unseen : (ss : List Step) (d : Dispatcher) (c : Call) → SameOutcome c (handled ss d) (play (calls_in ss) d)
settings_unseen ss d c = same_outcome (handled ss d) (play (calls_in ss) d) (settings_same ss d d (λ v. refl)) c
