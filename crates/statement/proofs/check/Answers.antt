-- The refusals in their order.
use Rattle.std.proofs.Common.{◌≡◌, Err, sym, ◌∙◌, rules}
use Rattle.statement.proofs.Call.{plan_refused, state_refused, length_refused, none_refused}
use Rattle.statement.proofs.check.Goals as goal

pub returns-in_err-check_blocks : goal.returns-in_err-check_blocks
returns-in_err-check_blocks c =
    let q : c.from_residual.result ≡ Err c.in_err-check_blocks.field-0.0 = search rules in
    q ∙ plan_refused c.args.running.now c.args.plan.now c.args.log.now c.in_err-check_blocks.ensures

pub returns-then-not-statement_ok : goal.returns-then-not-statement_ok
returns-then-not-statement_ok c =
    state_refused c.args.running.now c.args.plan.now c.args.log.now c.in_ok-check_blocks.ensures
    (sym c.statement_ok.ensures ∙ c.if-not-statement_ok.true)

pub returns-then-log-ne0 : goal.returns-then-log-ne0
returns-then-log-ne0 c =
    length_refused c.args.running.now c.args.plan.now c.args.log.now c.in_ok-check_blocks.ensures
    (sym c.statement_ok.ensures ∙ c.if-not-statement_ok.false) c.if-log-ne0.true

pub returns : goal.returns
returns c =
    none_refused c.args.running.now c.args.plan.now c.args.log.now c.in_ok-check_blocks.ensures
    (sym c.statement_ok.ensures ∙ c.if-not-statement_ok.false) c.if-log-ne0.false
