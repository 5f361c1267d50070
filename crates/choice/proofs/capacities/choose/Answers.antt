-- `choice::capacities::choose` meets its contract: after k turns the first k guests have their least capacities, and
-- the servers are those of the plan with them. Assumes nothing.
use Rattle.std.proofs.lemmas.Result.{err_from_is_err_and}
use Rattle.plan.specs.Periodic.{start_refusal}
use Rattle.plan.specs.Placed.{with_guest}
use Rattle.plan.proofs.First.{ok_says}
use Rattle.choice.proofs.CapacitiesLaws.{choice_refused, choice_made, goes_first, turn_none, turn_next, goes_end}
use Rattle.choice.proofs.capacities.choose.Goals as goal

pub returns-in_err-start_check : goal.returns-in_err-start_check
returns-in_err-start_check c =
    let e = err_from_is_err_and c.from_residual.result c.from_residual.ensures.1 in
    rw (e.1, e.2) (choice_refused _ c.in_err-start_check.ensures)

pub loop-k-init : goal.loop-k-init
loop-k-init c =
    goes_first _ (ok_says (start_refusal c.args.plan) c.in_ok-start_check.ensures).0
    c.servers_of-servers.ensures

pub returns-in-None : goal.returns-in-None
returns-in-None c =
    choice_made _ (ok_says (start_refusal c.args.plan) c.in_ok-start_check.ensures).0
    (turn_none c.loop-k.invariant c.loop-k-test.true c.in-None.ensures)

pub loop-k-preserved : goal.loop-k-preserved
unfolding with_guest
loop-k-preserved c = turn_next c.loop-k.invariant c.loop-k-test.true c.in-Some.c c.in-Some.ensures

pub returns : goal.returns
returns c =
    goes_end _ (ok_says (start_refusal c.args.plan) c.in_ok-start_check.ensures).0 c.loop-k.invariant
    c.loop-k-test.false
