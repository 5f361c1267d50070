-- `capacity::search::Search::smallest_from` meets its contract: where none works yet the answer is that of the whole
-- interval. Assumes nothing.
use mathlib.Core.Path.{◌∙◌}
use Rattle.capacity.proofs.Narrowing.{whole_span}
use Rattle.capacity.proofs.search.Search.smallest_from.Goals as goal

pub returns : goal.returns
returns c = c.smallest_in.ensures ∙ whole_span _ _ _
