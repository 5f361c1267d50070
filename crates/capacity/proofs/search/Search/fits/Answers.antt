-- `capacity::search::Search::fits` meets its contract: a guest that is fitted at a capacity is fitted at each smaller
-- one. Assumes nothing.
use Rattle.std.specs.Prelude.{is_some}
use mathlib.Core.Path.{sym, ◌∙◌, ap}
use Rattle.response.specs.Columns.{above_of}
use Rattle.capacity.specs.Search.{fits_at}
use Rattle.lists.proofs.Search.{at_of}
use Rattle.response.proofs.GuestLaws.{take_grows}
use Rattle.capacity.proofs.SearchLaws.{fits_down}
use Rattle.capacity.proofs.search.Search.fits.Goals as goal

pub returns-then-is_some : goal.returns-then-is_some
returns-then-is_some c =
    let found = at_of c.args.best (sym c.is_some.ensures ∙ c.if-is_some.true) in
    let known = c.requires.known found.0 found.1 in
    sym (fits_down (above_of _ _) (take_grows _ _) _ _ _ c.requires.within.1.0 known.0 known.1)

pub returns : goal.returns
unfolding fits_at
returns c = c.is_some-2.ensures ∙ ap is_some c.guest_response.ensures
