-- `response::tasks::tasks_of` meets its contract: the places passed hold the charged runs. Assumes nothing.
use Rattle.plan.specs.Charge.{charged}
use Rattle.plan.specs.Filled.{Filled}
use Rattle.response.proofs.tasks.tasks_of.Given as goal

abbrev pub invariant-loop-i : goal.invariant-loop-i
invariant-loop-i l = Filled l.run (charged l.g) l.i
