-- After j turns the first j blocks stand.
use Rattle.std.proofs.Common.{◌≡◌, ◌*◌, ◌++◌, drop}
use Rattle.lists.specs.Places.{nth}
use Rattle.block.specs.Layout.{block_size}
use Rattle.blockfile.specs.File.{block_at}
use Rattle.blockfile.specs.Joined.{joined}
use Rattle.salvage.specs.Moving.{moved}
use Rattle.salvage.proofs.mover.put_moved_up.Given as goal

abbrev pub invariant-loop-j : goal.invariant-loop-j
invariant-loop-j l =
    l.out ≡ joined (λ i. moved (block_at l.file (nth l.kept i)) i) l.j ++ drop (block_size * l.j) l.initial.out
