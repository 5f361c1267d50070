-- `rounding::Edges::none` meets its contract: no count has an edge. Assumes nothing.
use Rattle.rounding.proofs.EdgesLaws.{none_behind}
use Rattle.rounding.proofs.Edges.none.Goals as goal

pub returns : goal.returns
returns c = none_behind
