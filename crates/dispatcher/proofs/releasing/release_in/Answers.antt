-- By the aim: what is set is what the definition sets.
use Rattle.std.proofs.lemmas.Result.{err_from_is_err_and}
use Rattle.dispatcher.specs.Lent.{state_of}
use Rattle.dispatcher.proofs.Release.{release_refused, release_taken}
use Rattle.dispatcher.proofs.releasing.release_in.Goals as goal

pub returns-in_err-aim-clause-released : goal.returns-in_err-aim-clause-released
returns-in_err-aim-clause-released g c =
    let e = err_from_is_err_and c.from_residual.result c.from_residual.ensures.1 in
    let a = c.args in
    λ usage. rw (e.1, e.2) (release_refused (state_of (g.P.AsPlan.plan a.plan.now) a.left.now a.position.now a.rest.now a.wait.now a.age.now usage) _ _ _ c.in_err-aim.ensures)

pub returns-clause-released : goal.returns-clause-released
returns-clause-released g c = λ usage. release_taken _ _ _ _ c.in_ok-aim.ensures
