-- A turn puts one task of the row.
use Rattle.statement.specs.Lent.{DeadlinesTo}
use Rattle.statement.proofs.columns.put_row.Given as goal

abbrev pub invariant-loop-t : goal.invariant-loop-t
invariant-loop-t l = DeadlinesTo l.deadline l.k l.t l.initial.deadlines l.deadlines
