-- `rounding::Edges::move_on` meets its contract: each edge that the window has passed moves on, and the sum with it.
-- Assumes nothing.
use Rattle.lists.specs.Places.{nth}
use Rattle.rounding.proofs.EdgesLaws.{Moving}
use Rattle.rounding.proofs.Edges.move_on.Given as goal

abbrev pub invariant-loop-k : goal.invariant-loop-k
invariant-loop-k l = Moving (nth l.cost) (nth l.every) (nth l.late) l.self.at l.n l.v l.self.sum l.k
