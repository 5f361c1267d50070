-- The loop's invariant: the ticks done are steps one after the other, and the last finished no job.
use Rattle.std.proofs.Common.{◌≢◌}
use Rattle.steps.specs.Step.{StepsTo}
use Rattle.steps.proofs.running.steps.Given as goal

abbrev pub invariant-loop-done : goal.invariant-loop-done
invariant-loop-done l =
    (l.turn.had ≢ 1)
    × StepsTo l.n l.columns.capacities l.columns.periods l.columns.tasks
    (record { left = l.initial.left; position = l.initial.position; rest = l.initial.rest; wait = l.initial.wait; age = l.initial.age; usage = l.initial.usage }) l.done
    (record { left = l.left; position = l.position; rest = l.rest; wait = l.wait; age = l.age; usage = l.usage }) l.turn
