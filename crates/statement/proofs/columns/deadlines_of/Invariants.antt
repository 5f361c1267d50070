-- A turn puts the row of one guest, and the rows before it stand.
use Rattle.statement.specs.Lent.{DeadlinesOf}
use Rattle.statement.proofs.columns.deadlines_of.Given as goal

abbrev pub invariant-loop-k : goal.invariant-loop-k
invariant-loop-k l = DeadlinesOf l.plan l.k l.deadlines
