-- A host that sets the numbers beside the state, where the ticks went, between its calls.
use Rattle.std.specs.Prelude.{◌≡◌, List, [], ◌∷◌, ℕ}
use Rattle.dispatcher.specs.declared.Dispatcher.{Dispatcher}
use Rattle.dispatcher_laws.specs.Usage.{with_usage, SameButUsage}
use Rattle.history.specs.Calls.{Call, after, ticks_of, answer_of, call_number}

-- A call of two states has one answer, one number, as many ticks, and leaves states that are the same but for these
-- numbers.
pub record SameOutcome (c : Call) (d e : Dispatcher) : Type 0 where
  pub answer : answer_of c d ≡ answer_of c e
  pub number : call_number c d ≡ call_number c e
  pub ticks : ticks_of c d ≡ ticks_of c e
  pub state : SameButUsage (after c d) (after c e)

-- What a host does with the state: a call, or numbers put beside it.
pub data Step : Type 0 where
  calling : Call → Step
  setting : (usage : List ℕ) → Step

-- The state after these steps.
unfoldable pub handled : List Step → Dispatcher → Dispatcher
handled [] d = d
handled (calling c ∷ ss) d = handled ss (after c d)
handled (setting u ∷ ss) d = handled ss (with_usage d u)

-- The calls among these steps.
unfoldable pub calls_in : List Step → List Call
calls_in [] = []
calls_in (calling c ∷ ss) = c ∷ calls_in ss
calls_in (setting u ∷ ss) = calls_in ss
