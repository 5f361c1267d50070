-- The call is refused, or the log is taken.
use Rattle.std.proofs.Common.{◌∙◌}
use Rattle.statement.proofs.Call.{refused_so, file_passes, plan_passes, state_passes, log_stated}
use Rattle.statement.proofs.extend.Goals as goal

pub records-requires : goal.records-requires
records-requires c = file_passes c.args.running c.args.plan.now c.args.log.now c.in-Ok.ensures

pub count_log-requires-clause-in_order : goal.count_log-requires-clause-in_order
count_log-requires-clause-in_order c =
    let a = c.args in
    let q = c.in-Ok.ensures in
    (rw c.records.ensures (plan_passes a.running a.plan.now a.log.now q), state_passes a.running a.plan.now a.log.now q)

pub returns-in-Ok : goal.returns-in-Ok
returns-in-Ok c =
    c.count_log.ensures ∙ rw c.records.ensures (log_stated c.args.running c.args.plan.now c.args.log.now c.in-Ok.ensures)

pub returns-in-Err : goal.returns-in-Err
returns-in-Err c = refused_so c.args.running c.args.plan.now c.args.log.now c.in-Err.ensures
