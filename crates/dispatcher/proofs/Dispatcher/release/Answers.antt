-- What the release in place gives stands in the state, whose plan and usage are as they were.
use Rattle.dispatcher.proofs.Release.{told_by_number}
use Rattle.dispatcher.proofs.Dispatcher.release.Goals as goal

pub returns : goal.returns
returns c =
    rw (c.unwrap_or-number.ensures, c.err.ensures.value)
    (told_by_number c.release_in-refused.result _ (c.release_in-refused.ensures.released c.args.self.usage))
