-- `capacity::search::Search::settled`: the tasks passed are settled at c, which is fitted. Assumes nothing.
use Prim.Native.Nat.{◌-◌, ◌≤◌}
use Rattle.capacity.proofs.SearchLaws.{SettledIn}
use Rattle.capacity.proofs.search.Search.settled.Given as goal

abbrev pub invariant-loop-i : goal.invariant-loop-i
invariant-loop-i l = (l.i ≤ l.self.tasks.now.count) × SettledIn l.self l.i l.c

abbrev pub decreases-loop-i : goal.decreases-loop-i
decreases-loop-i l = l.self.tasks.now.count - l.i
