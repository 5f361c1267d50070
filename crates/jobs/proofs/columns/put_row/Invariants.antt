-- `jobs::columns::put_row` meets its contract: a turn puts one task of the row. Assumes nothing.
use Rattle.jobs.specs.Rows.{RowTo}
use Rattle.jobs.proofs.columns.put_row.Given as goal

abbrev pub invariant-loop-t : goal.invariant-loop-t
invariant-loop-t l = RowTo l.g.run l.g.every l.g.charge l.k l.t l.initial.runs l.initial.periods l.runs l.periods
