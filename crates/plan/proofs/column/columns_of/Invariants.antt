-- `plan::columns_of` meets its contract: each column is filled place by place. Assumes nothing.
use Rattle.plan.specs.Filled.{ColumnsOf}
use Rattle.plan.proofs.column.columns_of.Given as goal

abbrev pub invariant-loop-k : goal.invariant-loop-k
invariant-loop-k g l = ColumnsOf (g.P.AsPlan.plan l.plan).guests l.k l.columns
