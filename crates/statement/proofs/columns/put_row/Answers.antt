-- A turn puts one task of the row.
use borrow.Author.Rules.{rules}
use Rattle.statement.proofs.Lent.{row_none, row_next}
use Rattle.statement.proofs.columns.put_row.Goals as goal

pub loop-t-init : goal.loop-t-init
loop-t-init c = row_none _ _ _ c.requires.1.1

pub loop-t-preserved : goal.loop-t-preserved
loop-t-preserved c = row_next _ _ _ (search rules) c.loop-t.invariant
