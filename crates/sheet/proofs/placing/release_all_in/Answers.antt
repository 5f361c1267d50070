-- The check once, then the whole refusals in order, then the pairs.
use Rattle.std.proofs.Common.{Some, None, []}
use Rattle.std.proofs.lemmas.Result.{err_from_is_err_and}
use Rattle.dispatcher.specs.Lent.{state_of}
use Rattle.dispatcher.proofs.LentCheck.{examines}
use Rattle.sheet.proofs.Whole.{state_refuses, room_refuses, room_none, whole_taken, room_enough}
use Rattle.sheet.proofs.Whole.{plan_fine, small, sheet_columns}
use Rattle.sheet.proofs.placing.release_all_in.Goals as goal

pub returns-then-not-examine-clause-released : goal.returns-then-not-examine-clause-released
returns-then-not-examine-clause-released g c =
    let a = c.args in
    λ usage.
    let d = state_of (g.P.AsPlan.plan a.plan.now) a.left.now a.position.now a.rest.now a.wait.now a.age.now usage in
    state_refuses d a.pairs.now a.answers.now (examines d None (rw c.if-not-examine.true at c.examine.ensures))

pub returns-in_err-room_for-clause-released : goal.returns-in_err-room_for-clause-released
returns-in_err-room_for-clause-released g c =
    let a = c.args in
    let e = err_from_is_err_and c.from_residual.result c.from_residual.ensures.1 in
    λ usage.
    let d = state_of (g.P.AsPlan.plan a.plan.now) a.left.now a.position.now a.rest.now a.wait.now a.age.now usage in
    let E = examines d (Some c.examine.new.columns) (rw c.if-not-examine.false at c.examine.ensures) in
    rw (e.1, e.2) (room_refuses d a.pairs.now a.answers.now E c.in_err-room_for.ensures)

pub put_jobs-bars-requires : goal.put_jobs-bars-requires
put_jobs-bars-requires g c =
    let a = c.args in
    let d = state_of (g.P.AsPlan.plan a.plan.now) a.left.now a.position.now a.rest.now a.wait.now a.age.now [] in
    plan_fine d a.pairs.now a.answers.now (examines d (Some c.examine.new.columns) (rw c.if-not-examine.false at c.examine.ensures))

pub invariant_of-sheet : goal.invariant_of-sheet
invariant_of-sheet g c =
    let a = c.args in
    let d = state_of (g.P.AsPlan.plan a.plan.now) a.left.now a.position.now a.rest.now a.wait.now a.age.now [] in
    let E = examines d (Some c.examine.new.columns) (rw c.if-not-examine.false at c.examine.ensures) in
    rw c.count.ensures
    (record { small = small d a.pairs.now a.answers.now E; nothing = c.put_jobs-bars.ensures.1.nothing })

pub take_all-requires : goal.take_all-requires
take_all-requires g c =
    let a = c.args in
    let d = state_of (g.P.AsPlan.plan a.plan.now) a.left.now a.position.now a.rest.now a.wait.now a.age.now [] in
    let E = examines d (Some c.examine.new.columns) (rw c.if-not-examine.false at c.examine.ensures) in
    room_enough d a.pairs.now a.answers.now E (room_none d a.pairs.now a.answers.now E c.in_ok-room_for.ensures)

pub returns-clause-released : goal.returns-clause-released
returns-clause-released g c =
    let a = c.args in
    let p = g.P.AsPlan.plan a.plan.now in
    λ usage.
    let d = state_of p a.left.now a.position.now a.rest.now a.wait.now a.age.now usage in
    let E = examines d (Some c.examine.new.columns) (rw c.if-not-examine.false at c.examine.ensures) in
    whole_taken d a.pairs.now a.answers.now E (room_none d a.pairs.now a.answers.now E c.in_ok-room_for.ensures)
    (c.take_all.ensures p a.left.now a.position.now usage
    (rw c.count.ensures (sheet_columns d a.pairs.now a.answers.now E c.put_jobs-bars.ensures)) E.okay)
