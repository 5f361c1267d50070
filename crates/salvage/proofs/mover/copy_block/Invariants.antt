-- `salvage::mover::copy_block`: after i turns the first i bytes are the block's. Assumes nothing.
use mathlib.Core.Path.{◌≡◌}
use mathlib.Core.List.{◌++◌}
use lib.ListN.{length, take, drop}
use Rattle.salvage.proofs.mover.copy_block.Given as goal

abbrev pub invariant-loop-i : goal.invariant-loop-i
invariant-loop-i l = (l.out ≡ take l.i l.block ++ drop l.i l.initial.out) × (length l.out ≡ length l.initial.out)
