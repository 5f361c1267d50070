-- `capacity::search::Search::smallest_in`: the measure is the interval's length. Assumes nothing.
use Rattle.std.specs.Prelude.{◌-◌}
use Rattle.capacity.proofs.search.Search.+smallest_in.Given as goal

abbrev pub decreases-smallest_in : goal.decreases-smallest_in
decreases-smallest_in l = l.hi - l.lo
