-- A run of ticks: it stops after the first tick that finishes a job or when the number is used up.
use Rattle.std.specs.Prelude.{ℕ, zero, suc, ◌+◌}
use Rattle.lists.specs.Choice.{pick}
use Rattle.plan.specs.First.{fine}
use Rattle.dispatcher.specs.declared.Dispatcher.{Dispatcher}
use Rattle.dispatcher.specs.declared.Answer.{Answer}
use Rattle.dispatcher.specs.declared.Answer.TheVariants.{Silent}
use Rattle.dispatcher.specs.declared.Ran.{Ran}
use Rattle.dispatcher.specs.Tick.{next}
use Rattle.dispatcher.specs.Answer.{answer, finishes}

-- n single ticks
unfoldable pub ticks : ℕ → Dispatcher → Dispatcher
ticks zero d = d
ticks (suc n) d = ticks n (next d)

-- what a run reports: how many ticks were done and the last tick's answer
abbrev pub ran_to : ℕ → Answer → Dispatcher → Ran
ran_to done last d = record { refusal = fine; done = done; answer = last; state = d }

-- a run's last n ticks, after some were done and the last of them answered
unfoldable pub run_from : ℕ → ℕ → Answer → Dispatcher → Ran
run_from zero done last d = ran_to done last d
run_from (suc n) done last d =
    pick (finishes (answer d)) (ran_to (done + 1) (answer d) (next d)) (run_from n (done + 1) (answer d) (next d))

-- a run of n ticks; zero ticks report 0 and no answer
unfoldable pub run_for : ℕ → Dispatcher → Ran
run_for n d = run_from n 0 Silent d
