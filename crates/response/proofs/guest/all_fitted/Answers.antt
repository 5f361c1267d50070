-- `response::guest::all_fitted` meets its contract: one that is not fitted fails them all. Assumes nothing.
use Rattle.response.specs.Columns.{fitted_at}
use Rattle.lists.proofs.All.{all_fails}
use Rattle.response.proofs.ColumnsLaws.{test_is}
use Rattle.response.proofs.guest.all_fitted.Goals as goal

pub returns-then-is_none : goal.returns-then-is_none
unfolding fitted_at
returns-then-is_none c =
    all_fails _ _ _ c.loop-k-test.true (test_is c.response_at.ensures c.is_none.ensures c.if-is_none.true)
