-- The loop's invariant: the waits of the places passed have fallen, and no other.
use Rattle.std.proofs.Common.{◌≡◌}
use Rattle.lists.specs.Places.{up_to}
use Rattle.arrays.specs.Parts.{fallen}
use Rattle.arrays.proofs.jobs.fall.Given as goal

abbrev pub invariant-loop-i : goal.invariant-loop-i
invariant-loop-i l = l.wait ≡ up_to fallen l.i l.initial.wait
