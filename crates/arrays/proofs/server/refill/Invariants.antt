-- The loop's invariant: the guests passed are refilled, and no other.
use Rattle.std.proofs.Common.{◌≡◌}
use Rattle.lists.specs.Places.{up_to}
use Rattle.arrays.specs.Parts.{filled}
use Rattle.arrays.proofs.server.refill.Given as goal

abbrev pub invariant-loop-k : goal.invariant-loop-k
invariant-loop-k l = l.left ≡ up_to (filled l.position l.columns.capacities) l.k l.initial.left
