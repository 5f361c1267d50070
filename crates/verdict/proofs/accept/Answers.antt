-- `verdict::accept` meets its promise: refused by the records' order, else guests that are accepted up to one that is
-- not. Assumes nothing.
use mathlib.Core.Path.{sym, ◌∙◌}
use native.Mathlib.Omega.{arith}
use Rattle.std.proofs.lemmas.Result.{err_from_is_err_and}
use Rattle.verdict.specs.Verdict.{accept_says, acceptance}
use Rattle.lists.proofs.All.{all_none, all_next, all_fails, all_done}
use Rattle.plan.proofs.Order.{check_order}
use Rattle.response.proofs.ReadyLaws.{seated_at}
use Rattle.verdict.proofs.Verdict.{check_ends, plan_accepted}
use Rattle.verdict.proofs.accept.Goals as goal

pub returns-in_err-check : goal.returns-in_err-check
unfolding acceptance
returns-in_err-check g c =
    let e = err_from_is_err_and c.from_residual.result c.from_residual.ensures.1 in
    rw (e.1, e.2) (check_ends _ c.in_err-check.ensures _)

pub loop-k-init : goal.loop-k-init
loop-k-init g c = all_none _

pub guest-requires : goal.guest-requires
guest-requires g c =
    let p = g.P.AsPlan.plan c.args.plan.now in
    omega (arith, (check_order p c.in_ok-check.ensures).few, c.count-k-end.ensures)

pub guest_accepted-requires : goal.guest_accepted-requires
guest_accepted-requires g c =
    let p = g.P.AsPlan.plan c.args.plan.now in
    rw c.guest.ensures
    (seated_at p c.servers_of-servers.ensures (check_order p c.in_ok-check.ensures) _
    (omega (arith, c.count-k-end.ensures)))

pub returns-then-not-guest_accepted : goal.returns-then-not-guest_accepted
unfolding accept_says
returns-then-not-guest_accepted g c =
    let p = g.P.AsPlan.plan c.args.plan.now in
    let accepted = rw c.guest.ensures at c.guest_accepted.ensures in
    plan_accepted p c.in_ok-check.ensures c.servers_of-servers.ensures
    (all_fails _ _ _ (omega (arith, c.count-k-end.ensures)) (sym accepted ∙ c.if-not-guest_accepted.true))

pub loop-k-preserved : goal.loop-k-preserved
loop-k-preserved g c =
    let accepted = rw c.guest.ensures at c.guest_accepted.ensures in
    all_next _ _ c.loop-k.invariant (sym accepted ∙ c.if-not-guest_accepted.false)

pub returns : goal.returns
unfolding accept_says
returns g c =
    let p = g.P.AsPlan.plan c.args.plan.now in
    plan_accepted p c.in_ok-check.ensures c.servers_of-servers.ensures
    (all_done _ _ _ (omega (arith, c.count-k-end.ensures)) c.loop-k.invariant)
