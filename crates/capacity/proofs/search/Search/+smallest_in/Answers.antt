-- `capacity::search::Search::smallest_in` meets its contract: a turn leaves fewer capacities, and the same answer.
-- Assumes nothing.
use mathlib.Core.Path.{◌∙◌}
use native.Mathlib.Omega.{arith}
use Rattle.capacity.proofs.Narrowing.{empty_span, narrows_fewer}
use Rattle.capacity.proofs.search.Search.+smallest_in.Goals as goal

pub returns-then-hi-lo : goal.returns-then-hi-lo
returns-then-hi-lo t c = empty_span _ _ _ _ c.if-hi-lo.true

pub smallest_in-requires : goal.smallest_in-requires
smallest_in-requires t c =
    let s = c.requires in
    let f = narrows_fewer c.narrowed-left.ensures.0 c.if-hi-lo.false in (
      omega (arith, c.decreases, f.fewer),
      (s.within, ((omega (arith, s.bounds, f.low), omega (arith, s.bounds, f.high)), c.narrowed-left.ensures.1)),
    )

pub returns : goal.returns
returns t c = c.smallest_in.ensures ∙ c.narrowed-left.ensures.0.same
