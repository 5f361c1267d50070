-- A plan's bytes converted: every Deferrable guest is made a Periodic one with the same numbers, in the one form that a
-- Periodic guest has.
use Rattle.std.specs.Prelude.{List, ℕ}
use Rattle.plan.specs.Server.{as_periodic}
use Rattle.block.specs.Reading.{guest_of}
use Rattle.blockwriter.specs.Writing.{block_of}
use Rattle.blockfile.specs.File.{block_at, blocks_in}
use Rattle.blockfile.specs.Joined.{joined}

-- The block at a place with its guest made Periodic: kind 1 where no task has a mark, byte 22 zero, the check anew.
unfoldable pub converted_block : List ℕ → (place : ℕ) → List ℕ
converted_block b place = block_of (as_periodic (guest_of b)) place

-- A plan's bytes with every block converted at its place.
unfoldable pub converted_bytes : List ℕ → List ℕ
converted_bytes s = joined (λ k. converted_block (block_at s k) k) (blocks_in s)
