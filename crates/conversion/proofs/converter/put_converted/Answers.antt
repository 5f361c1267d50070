-- `conversion::converter::put_converted` meets its contract: after k turns the first k blocks stand. Assumes nothing.
use Rattle.std.proofs.Common.{◌≡◌, refl, arith}
use Rattle.plan.specs.Server.{as_periodic}
use Rattle.block.specs.Reading.{guest_of}
use Rattle.blockfile.specs.File.{block_at, blocks_in}
use Rattle.blockfile.specs.Joined.{joined}
use Rattle.conversion.specs.Converting.{converted_block, converted_bytes}
use Rattle.blockwriter.proofs.Writing.{block_length}
use Rattle.blockfile.proofs.Joined.{part_room, part_next}
use Rattle.conversion.proofs.converter.put_converted.Goals as goal

pub loop-k-init : goal.loop-k-init
unfolding joined
loop-k-init c = refl

pub put_periodic-requires : goal.put_periodic-requires
put_periodic-requires c = (
  (omega arith, c.loop-k-test.true),
  (c.requires.1 c.loop-k.k c.loop-k-test.true, part_room c.loop-k.k c.loop-k.out (omega arith)),
)

pub loop-k-preserved : goal.loop-k-preserved
unfolding converted_block
loop-k-preserved c =
    let bytes = c.args.bytes.now in
    part_next (λ i. converted_block (block_at bytes i) i) c.loop-k.k c.args.out.now c.loop-k.out _
    (λ i h. block_length (as_periodic (guest_of (block_at bytes i))) i) (omega arith)
    c.loop-k.invariant c.put_periodic.ensures

pub returns : goal.returns
unfolding converted_bytes
returns c =
    let e : c.loop-k.k ≡ blocks_in c.args.bytes.now = omega arith in
    rw e at c.loop-k.invariant
