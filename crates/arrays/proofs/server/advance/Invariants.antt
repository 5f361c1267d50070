-- The loop's invariant: the guests passed have moved on, and no other.
use Rattle.std.proofs.Common.{◌≡◌}
use Rattle.lists.specs.Places.{up_to}
use Rattle.arrays.specs.Parts.{onward}
use Rattle.arrays.proofs.server.advance.Given as goal

abbrev pub invariant-loop-k : goal.invariant-loop-k
invariant-loop-k l = l.position ≡ up_to (onward l.columns.periods) l.k l.initial.position
