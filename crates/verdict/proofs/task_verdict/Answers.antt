-- `verdict::task_verdict` meets its promise: the task of the guest at its seat. Assumes nothing.
use mathlib.Core.Path.{sym, ◌∙◌}
use mathlib.Core.List.{[], ◌∷◌}
use native.Mathlib.Omega.{arith}
use Rattle.std.proofs.lemmas.Result.{err_from_is_err_and}
use Rattle.lists.specs.Refusals.{◌or_refuse◌}
use Rattle.plan.specs.Place.{has_task}
use Rattle.verdict.specs.Verdict.{task_verdict}
use Rattle.plan.proofs.LookUp.{look_few}
use Rattle.plan.proofs.RangesLaws.{within_says}
use Rattle.response.proofs.SeatLaws.{sits_seated}
use Rattle.verdict.proofs.Verdict.{look_ends, task_missing, task_judged}
use Rattle.verdict.proofs.task_verdict.Goals as goal

pub returns-in_err-seat : goal.returns-in_err-seat
unfolding task_verdict
returns-in_err-seat g c =
    let e = err_from_is_err_and c.from_residual.result c.from_residual.ensures.1 in
    let p = g.P.AsPlan.plan c.args.plan.now in
    rw (e.1, e.2) (look_ends p c.args.id c.in_err-seat.ensures (has_task p c.args.id c.args.task or_refuse 8 ∷ []) _)

pub guest-g-requires : goal.guest-g-requires
guest-g-requires g c = look_few _ _ c.in_ok-seat.ensures.looks

pub returns-then-not-has_task : goal.returns-then-not-has_task
returns-then-not-has_task g c =
    task_missing _ _ c.in_ok-seat.ensures.looks _ (rw c.guest-g.ensures at c.has_task.ensures) c.if-not-has_task.true

pub judge_task-requires : goal.judge_task-requires
judge_task-requires g c =
    let number = within_says 1 c.guest-g.result.tasks c.args.task (sym c.has_task.ensures ∙ c.if-not-has_task.false) in
    (rw c.guest-g.ensures (sits_seated c.in_ok-seat.ensures), omega (arith, number.0, number.1))

pub returns : goal.returns
returns g c =
    let t = c.in_ok-seat.ensures in
    task_judged _ _ t.looks t.servers _ (rw c.guest-g.ensures at c.has_task.ensures) c.if-not-has_task.false
    (rw c.guest-g.ensures at c.judge_task.ensures)
