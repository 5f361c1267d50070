-- What the records' refusal says, and then zeros or nothing.
use Rattle.std.proofs.lemmas.Result.{err_from_is_err_and}
use Rattle.dispatcher.specs.Fresh.{idle}
use Rattle.dispatcher.proofs.Fresh.{start_in_fresh, start_in_refused}
use Rattle.dispatcher.proofs.starting.start_in.Goals as goal

pub returns-in_err-start_check-clause-started : goal.returns-in_err-start_check-clause-started
returns-in_err-start_check-clause-started g c =
    let e = err_from_is_err_and c.from_residual.result c.from_residual.ensures.1 in
    rw (e.1, e.2) (start_in_refused _ c.in_err-start_check.ensures)

pub returns-clause-started : goal.returns-clause-started
unfolding idle
returns-clause-started g c = start_in_fresh _ c.in_ok-start_check.ensures
