-- `response::task::task_response` meets its contract: a search with no edges, from 1 on. Assumes nothing.
use mathlib.Core.Path.{◌∙◌}
use native.Mathlib.Omega.{arith}
use Rattle.response.specs.Columns.{system_at}
use Rattle.response.proofs.GuestLaws.{take_grows}
use Rattle.response.proofs.MetLaws.{begins_fresh, finds_none, finds_at, finds_within}
use Rattle.response.proofs.task.task_response.Goals as goal

pub window_from-requires-clause-begins : goal.window_from-requires-clause-begins
window_from-requires-clause-begins c =
    begins_fresh (system_at _ _ _ _ c.args.tasks.now _) (take_grows c.args.servers.now c.args.n) _ c.requires.ready
    (c.none-edges.ensures _ _ _ _ _)

pub returns-in_err-w : goal.returns-in_err-w
returns-in_err-w c =
    c.from_residual.ensures
    ∙ finds_none (system_at _ _ _ _ c.args.tasks.now _) c.args.i c.args.most c.in_err-w.ensures

pub overflow_add-result : goal.overflow_add-result
overflow_add-result c =
    omega (arith, finds_within (system_at _ _ _ _ c.args.tasks.now _) c.args.i c.args.most c.in_ok-w.ensures)

pub returns : goal.returns
returns c = finds_at (system_at _ _ _ _ c.args.tasks.now _) c.args.i c.args.most c.in_ok-w.ensures
