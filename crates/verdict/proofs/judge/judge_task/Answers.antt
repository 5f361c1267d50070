-- `verdict::judge::judge_task` meets its contract: unjudged under an unfit guest, else by the recurrence up to the
-- task's period. Assumes nothing.
use mathlib.Core.Path.{sym, ◌∙◌}
use native.Mathlib.Omega.{arith}
use Rattle.response.specs.Task.{limit}
use Rattle.response.specs.Columns.{above_of}
use Rattle.equation.proofs.Alike.{task_alike}
use Rattle.response.proofs.ColumnsLaws.{tasks_alike}
use Rattle.response.proofs.ReadyLaws.{guest_ready, seated_range, seated_fits}
use Rattle.verdict.proofs.Verdict.{says_unjudged, says_judged}
use Rattle.verdict.proofs.judge.judge_task.Goals as goal

pub returns-then-not-all_fitted : goal.returns-then-not-all_fitted
returns-then-not-all_fitted c = says_unjudged _ _ (sym c.all_fitted.ensures ∙ c.if-not-all_fitted.true)

pub task_response-f-requires-clause-ready : goal.task_response-f-requires-clause-ready
task_response-f-requires-clause-ready c =
    let s = c.requires in
    let t = c.tasks_of-tasks.ensures in
    guest_ready (above_of _ _) _ _ _ _ (seated_range _ _ _ s.0 t c.gaps_of-late.ensures)
    (seated_fits _ _ _ s.0 (sym c.all_fitted.ensures ∙ c.if-not-all_fitted.false)) _ (omega (arith, s.1, t.count))

pub task_response-f-requires-clause-most_le_longest : goal.task_response-f-requires-clause-most_le_longest
task_response-f-requires-clause-most_le_longest c =
    let s = c.requires in
    let t = c.tasks_of-tasks.ensures in
    let range = seated_range _ _ _ s.0 t c.gaps_of-late.ensures in (
      s.0.tasks.periods _ s.1,
      (
        λ j h. range.gaps j (omega (arith, s.1, t.count)),
        λ j h. range.tasks.periods j (omega (arith, s.1, t.count)),
      ),
    )

pub returns : goal.returns
unfolding limit
returns c =
    let s = c.requires in
    let t = c.tasks_of-tasks.ensures in
    says_judged _ (sym c.all_fitted.ensures ∙ c.if-not-all_fitted.false) c.met_or_not.ensures
    (c.task_response-f.ensures
    ∙ task_alike _ _ _ _ (omega (arith, s.1, t.count))
    (tasks_alike (above_of _ _) c.args.g.now t c.gaps_of-late.ensures) _)
