-- `conversion::converter::put_converted` meets its contract: after k turns the first k blocks stand. Assumes nothing.
use Rattle.std.proofs.Common.{◌≡◌, ◌*◌, ◌++◌, drop}
use Rattle.block.specs.Layout.{block_size}
use Rattle.blockfile.specs.File.{block_at}
use Rattle.blockfile.specs.Joined.{joined}
use Rattle.conversion.specs.Converting.{converted_block}
use Rattle.conversion.proofs.converter.put_converted.Given as goal

abbrev pub invariant-loop-k : goal.invariant-loop-k
invariant-loop-k l =
    l.out ≡ joined (λ i. converted_block (block_at l.bytes i) i) l.k ++ drop (block_size * l.k) l.initial.out
