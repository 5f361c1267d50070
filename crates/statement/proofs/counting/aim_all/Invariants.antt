-- A turn looks at one entry more.
use Rattle.statement.proofs.Aiming.{Aims}
use Rattle.statement.proofs.counting.aim_all.Given as goal

abbrev pub invariant-loop-i : goal.invariant-loop-i
invariant-loop-i l = Aims l.by.plan.now l.b l.i l.at l.tasks
