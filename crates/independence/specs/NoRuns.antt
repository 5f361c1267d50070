-- Histories without runs of several ticks.
use Rattle.std.specs.Prelude.{List, [], ◌∷◌}
use Rattle.history.specs.Calls.{Call, releasing, ticking, running, sheeting}

-- No call of the history is a run: each tick is asked for by itself.
unfoldable pub NoRuns : List Call → Type 0
NoRuns [] = Unit {0}
NoRuns (releasing guest task ∷ cs) = NoRuns cs
NoRuns (ticking ∷ cs) = NoRuns cs
NoRuns (running n ∷ cs) = ⊥
NoRuns (sheeting pairs room ∷ cs) = NoRuns cs
