-- `plan::start_check` meets its contract: of records in order the one test. Assumes nothing.
use Rattle.std.proofs.Common.{arith, sym, ◌∙◌}
use Rattle.plan.proofs.First.{ok_says, ok_unless, err_unless}
use Rattle.plan.proofs.Order.{check_order}
use Rattle.plan.proofs.PeriodicLaws.{periodic_tested, deferrable_refused, starts_by}
use Rattle.plan.proofs.starting.start_check.Goals as goal

pub returns-then-not-all_periodic : goal.returns-then-not-all_periodic
returns-then-not-all_periodic g c =
    let p = g.P.AsPlan.plan c.args.plan.now in
    let in_order = check_order p c.in_ok-check.ensures in
    let tested = rw c.count.ensures at c.all_periodic.ensures ∙ periodic_tested p in_order.few c.columns_of.ensures in
    err_unless _ _ (deferrable_refused p (ok_says _ c.in_ok-check.ensures).0 (sym tested ∙ c.if-not-all_periodic.true)) (omega arith)

pub returns : goal.returns
returns g c =
    let p = g.P.AsPlan.plan c.args.plan.now in
    let in_order = check_order p c.in_ok-check.ensures in
    let tested = rw c.count.ensures at c.all_periodic.ensures ∙ periodic_tested p in_order.few c.columns_of.ensures in
    let fine = starts_by p (ok_says _ c.in_ok-check.ensures).0 (sym tested ∙ c.if-not-all_periodic.false) in
    ok_unless _ _ (omega arith)
