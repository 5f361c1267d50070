-- The loop's invariant: the ages of the places passed are grown, and no other.
use Rattle.std.proofs.Common.{◌≡◌}
use Rattle.lists.specs.Places.{up_to}
use Rattle.arrays.specs.Parts.{grown}
use Rattle.arrays.proofs.jobs.grow.Given as goal

abbrev pub invariant-loop-i : goal.invariant-loop-i
invariant-loop-i l = l.age ≡ up_to (grown l.rest) l.i l.initial.age
