-- What the sheet in place gives is told by its number.
use Rattle.dispatcher.proofs.Release.{told_by_number}
use Rattle.sheet.proofs.release_all.Goals as goal

pub returns : goal.returns
returns c =
    let r = c.release_all_in-refused.ensures.released c.args.state.usage in
    (rw (c.unwrap_or-number.ensures, c.err.ensures.value) (told_by_number c.release_all_in-refused.result _ r.0), r.1)
