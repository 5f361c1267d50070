-- A damaged plan file salvaged: the refusals in their order, the answer, and the lent output.
use Rattle.std.specs.Prelude.{ℕ, zero, suc, ◌*◌, ◌/◌, leb, List, [], ◌∷◌, ◌++◌, length, drop, nat_le}
use Rattle.lists.specs.Choice.{pick}
use Rattle.lists.specs.Refusals.{refusal, ◌or_refuse◌}
use Rattle.plan.specs.First.{refused}
use Rattle.block.specs.Layout.{block_size}
use Rattle.blockfile.specs.File.{most_bytes}
use Rattle.salvage.specs.declared.Fate.{Fate}
use Rattle.salvage.specs.declared.Salvaged.{Salvaged}
use Rattle.salvage.specs.Keeping.{kept_places}
use Rattle.salvage.specs.Fates.{fates_of}
use Rattle.salvage.specs.Moving.{moved_up}

-- How many blocks of a file of so many bytes are listed: its whole ones, and none of a file above 4,096.
abbrev pub listed_in : (size : ℕ) → ℕ
listed_in size = pick (nat_le size most_bytes) (size / block_size) 0

-- The places of the kept blocks in the file, in order.
abbrev pub kept_in : List ℕ → List ℕ
kept_in s = kept_places s (listed_in (length s))

-- The number that salvage refuses by, 0 for none, for a file and an output of so many bytes and so many kept blocks.
unfoldable pub salvage_number : (size kept room : ℕ) → ℕ
salvage_number size kept room =
    refusal (
    leb size most_bytes or_refuse 1
    ∷ leb (block_size * kept) room or_refuse 12
    ∷ leb 1 kept or_refuse 20
    ∷ [])

-- The number that salvage refuses a file by, for an output of so many bytes.
abbrev pub number_of : List ℕ → (room : ℕ) → ℕ
number_of s room = salvage_number (length s) (length (kept_in s)) room

-- How many blocks are written: the kept ones, or none on a refusal.
unfoldable pub blocks_written : (number kept : ℕ) → ℕ
blocks_written zero kept = kept
blocks_written (suc n) kept = 0

-- An answer: the refusal, whose place is 0, the bytes of so many written blocks, and the list of so many.
abbrev pub answer_of : (number written blocks : ℕ) → List Fate → Salvaged
answer_of number written blocks fates = record {
  refusal = refused number 0;
  written = block_size * written;
  blocks = blocks;
  fates = fates;
}

-- The answer for a file and an output of so many bytes. The list is the same on a refusal.
unfoldable pub salvaged_of : List ℕ → (room : ℕ) → Salvaged
salvaged_of s room =
    let number = number_of s room in
    let blocks = listed_in (length s) in
    answer_of number (blocks_written number (length (kept_in s))) blocks (fates_of s blocks)

-- The lent bytes: the kept blocks and what stood behind them, or on a refusal what stood there.
unfoldable pub output_by : (number : ℕ) → (saved before : List ℕ) → List ℕ
output_by zero saved before = saved ++ drop (length saved) before
output_by (suc n) saved before = before

-- The lent bytes after salvage.
abbrev pub output_of : List ℕ → (before : List ℕ) → List ℕ
output_of s before = output_by (number_of s (length before)) (moved_up s (kept_in s)) before
