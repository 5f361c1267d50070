-- The calls of a tick and of a run, with their refusals. Tick: 14. Run: 14, 13.
use Rattle.std.specs.Prelude.{[], ◌∷◌, ℕ, zero, suc, leb}
use Rattle.lists.specs.Refusals.{refusal, ◌or_refuse◌}
use Rattle.plan.specs.First.{refused, fine}
use Rattle.dispatcher.specs.declared.Dispatcher.{Dispatcher}
use Rattle.dispatcher.specs.declared.Answer.TheVariants.{Silent}
use Rattle.dispatcher.specs.declared.Ticked.{Ticked}
use Rattle.dispatcher.specs.declared.Ran.{Ran}
use Rattle.dispatcher.specs.Valid.{state_ok}
use Rattle.dispatcher.specs.Tick.{next}
use Rattle.dispatcher.specs.Answer.{answer}
use Rattle.dispatcher.specs.Run.{run_for}

-- the longest run, in ticks
abbrev pub longest_run : ℕ
longest_run = 1000000

-- the outcome of a tick by the number that it is refused by
unfoldable pub ticked_by : ℕ → Dispatcher → Ticked
ticked_by zero d = record { refusal = fine; answer = answer d; state = next d }
ticked_by (suc n) d = record { refusal = refused (suc n) 0; answer = Silent; state = d }

-- a tick
unfoldable pub tick : Dispatcher → Ticked
tick d = ticked_by (refusal (state_ok d or_refuse 14 ∷ [])) d

-- the outcome of a run of n ticks by the number that it is refused by
unfoldable pub ran_by : ℕ → Dispatcher → ℕ → Ran
ran_by zero d n = run_for n d
ran_by (suc x) d n = record { refusal = refused (suc x) 0; done = 0; answer = Silent; state = d }

-- a run of n ticks
unfoldable pub run : Dispatcher → ℕ → Ran
run d n = ran_by (refusal (state_ok d or_refuse 14 ∷ leb n longest_run or_refuse 13 ∷ [])) d n
