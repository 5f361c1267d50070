-- The causes that drop a block and that refuse a file, in document 02's words.
use Rattle.std.specs.Prelude.{◌≡◌, ◌⊎◌, ◌≢◌, List, ℕ, ◌*◌, ◌<◌, length}
use Rattle.block.specs.Layout.{block_size}
use Rattle.block.specs.Reading.{guest_of}
use Rattle.blockfile.specs.File.{block_at, id_at, most_bytes}
use Rattle.salvage.specs.Fates.{fate}
use Rattle.salvage.specs.Outcome.{listed_in, kept_in}
use Rattle.planfile_laws.specs.Causes.{WrongHead}

-- 4: the id of block k was already seen in an earlier block that is kept.
abbrev pub SeenKept : List ℕ → ℕ → Type 0
SeenKept s k = (j : ℕ) × ((j < k) × (((fate s j).number ≡ 0) × (id_at s j ≡ id_at s k)))

-- 4: the guest's own numbers, or its id among those of earlier kept blocks.
abbrev pub WrongAmongKept : List ℕ → ℕ → Type 0
WrongAmongKept s k = WrongHead (guest_of (block_at s k)) ⊎ SeenKept s k

-- 1: the file is above 4,096 bytes.
abbrev pub TooLong : List ℕ → Type 0
TooLong s = most_bytes < length s

-- 12: the output is shorter than the kept blocks.
abbrev pub NoRoom : List ℕ → (room : ℕ) → Type 0
NoRoom s room = room < block_size * length (kept_in s)

-- 20: every block of the list is dropped.
abbrev pub NothingKept : List ℕ → Type 0
NothingKept s = (k : ℕ) → k < listed_in (length s) → (fate s k).number ≢ 0
