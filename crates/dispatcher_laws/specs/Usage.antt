-- States that are the same but for the numbers beside them, where the ticks went.
use Rattle.std.specs.Prelude.{◌≡◌, List, ℕ}
use Rattle.dispatcher.specs.declared.Dispatcher.{Dispatcher}

-- The state with these numbers beside it, all else unchanged.
abbrev pub with_usage : Dispatcher → List ℕ → Dispatcher
with_usage d u =
    record {
      plan = d.plan;
      left = d.left;
      position = d.position;
      rest = d.rest;
      wait = d.wait;
      age = d.age;
      usage = u;
    }

-- Two states are the same but for these numbers: with any numbers beside both, they are one state.
abbrev pub SameButUsage : Dispatcher → Dispatcher → Type 0
SameButUsage d e = (u : List ℕ) → with_usage d u ≡ with_usage e u
