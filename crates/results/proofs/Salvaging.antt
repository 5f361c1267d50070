-- P11, a damaged plan file salvaged. `fate s k` is what becomes of block k of the file s, `kept_in s` are the places of
-- the kept blocks, `saved s` is what is written of them, and `output_of s before` is the lent output afterwards.
use mathlib.Core.Path.{◌≡◌}
use mathlib.Core.List.{List, ◌++◌}
use Prim.Native.Nat.{ℕ, ◌≤◌, ◌<◌}
use lib.ListN.{length, get_or, drop}
use Rattle.lists.specs.Exactly.{◌exactly_when◌, ◌not_but◌}
use Rattle.lists.specs.Places.{nth}
use Rattle.words.specs.Bytes.{Bytes}
use Rattle.plan.specs.First.{fine}
use Rattle.block.specs.Reading.{guest_of}
use Rattle.blockfile.specs.File.{block_at, file_refusal}
use Rattle.blockfile.specs.Records.{records_of}
use Rattle.planfile.specs.Records.{read_of}
use Rattle.planfile_laws.specs.Causes.{WrongSum, WrongKind, WrongZero, WrongTask}
use Rattle.salvage.specs.Fates.{fate, no_fate}
use Rattle.salvage.specs.Moving.{moved}
use Rattle.salvage.specs.Outcome.{listed_in, kept_in, number_of, salvaged_of, output_of}
use Rattle.salvage_laws.specs.Causes.{WrongAmongKept, TooLong, NoRoom, NothingKept}
use Rattle.salvage_laws.specs.Saved.{kept_block, saved, Anew}
use Rattle.salvage_laws.proofs.Exact as exact
use Rattle.salvage_laws.proofs.ReadsAsPlan as reading
use Rattle.salvage_laws.proofs.Same as same

-- What is written reads as a plan, whose records are those of the kept blocks in order.
pub reads_as_plan :
    (s : List ℕ) (room : ℕ)
    → number_of s room ≡ 0
    → read_of (saved s)
    ≡ record {
      refusal = fine;
      plan = record { count = length (kept_in s); guests = records_of (kept_block s) (length (kept_in s)) };
    }
reads_as_plan = reading.reads_as_plan

-- Where nothing is refused the output is that, and past it what stood there.
pub output_is :
    (s before : List ℕ)
    → number_of s (length before) ≡ 0
    → output_of s before ≡ saved s ++ drop (length (saved s)) before
output_is = same.output_is

-- A file with nothing wrong comes back the same, byte for byte.
pub nothing_wrong_same :
    (s before : List ℕ)
    → Bytes s
    → (file_refusal s).number ≡ 0
    → length s ≤ length before
    → output_of s before ≡ s ++ drop (length s) before
nothing_wrong_same = same.nothing_wrong_same

-- Salvaging what was salvaged changes nothing.
pub salvaged_again_same :
    (s : List ℕ) (room : ℕ)
    → Bytes s
    → number_of s room ≡ 0
    → (before : List ℕ)
    → length (saved s) ≤ length before
    → output_of (saved s) before ≡ saved s ++ drop (length (saved s)) before
salvaged_again_same = same.salvaged_again_same

-- A kept block differs from its source in bytes 2-3 and 508-511 alone.
pub only_place_and_check :
    (s : List ℕ)
    → Bytes s
    → (j : ℕ)
    → j < length (kept_in s)
    → (i : ℕ)
    → (Anew i → ⊥)
    → nth (block_at (saved s) j) i ≡ nth (kept_block s j) i
only_place_and_check = reading.only_place_and_check

-- Byte 22 is as it is found.
pub byte_22_stays :
    (s : List ℕ)
    → Bytes s
    → (j : ℕ)
    → j < length (kept_in s)
    → nth (block_at (saved s) j) 22 ≡ nth (kept_block s j) 22
byte_22_stays = reading.byte_22_stays

-- The list decides each block, on a refusal too.
pub list_says :
    (s : List ℕ) (room k : ℕ) → k < listed_in (length s) → get_or (salvaged_of s room).fates k no_fate ≡ fate s k
list_says = exact.list_says

module _ (s : List ℕ) (k : ℕ) where
  -- A kept block stands at the place that the list says, moved there.
  pub kept_there :
      k < listed_in (length s)
      → (fate s k).number ≡ 0
      → block_at (saved s) (fate s k).place ≡ moved (block_at s k) (fate s k).place
  kept_there = exact.kept_there s k

  -- A block is kept exactly when no cause holds, and dropped by a number exactly when its cause does and none before it.
  pub kept_exactly :
      ((fate s k).number ≡ 0)
      exactly_when (
      WrongSum (block_at s k)
      not_but WrongKind (block_at s k)
      not_but WrongAmongKept s k
      not_but WrongZero (block_at s k)
      not_but (WrongTask (guest_of (block_at s k)) → ⊥))
  kept_exactly = exact.kept_exactly s k

  pub dropped_by_two : ((fate s k).number ≡ 2) exactly_when WrongSum (block_at s k)
  dropped_by_two = exact.dropped_by_two s k

  pub dropped_by_three : ((fate s k).number ≡ 3) exactly_when (WrongSum (block_at s k) not_but WrongKind (block_at s k))
  dropped_by_three = exact.dropped_by_three s k

  pub dropped_by_four :
      ((fate s k).number ≡ 4)
      exactly_when (WrongSum (block_at s k) not_but WrongKind (block_at s k) not_but WrongAmongKept s k)
  dropped_by_four = exact.dropped_by_four s k

  pub dropped_by_five :
      ((fate s k).number ≡ 5)
      exactly_when (
      WrongSum (block_at s k)
      not_but WrongKind (block_at s k)
      not_but WrongAmongKept s k
      not_but WrongZero (block_at s k))
  dropped_by_five = exact.dropped_by_five s k

  pub dropped_by_six :
      ((fate s k).number ≡ 6)
      exactly_when (
      WrongSum (block_at s k)
      not_but WrongKind (block_at s k)
      not_but WrongAmongKept s k
      not_but WrongZero (block_at s k)
      not_but WrongTask (guest_of (block_at s k)))
  dropped_by_six = exact.dropped_by_six s k

-- The refusals of a whole file, in their order: a file above 4,096 bytes, an output shorter than the kept blocks, and
-- nothing kept.
module _ (s : List ℕ) (room : ℕ) where
  pub one_exactly : (number_of s room ≡ 1) exactly_when TooLong s
  one_exactly = exact.one_exactly s room

  pub twelve_exactly : (number_of s room ≡ 12) exactly_when (TooLong s not_but NoRoom s room)
  twelve_exactly = exact.twelve_exactly s room

  pub twenty_exactly : (number_of s room ≡ 20) exactly_when (TooLong s not_but NoRoom s room not_but NothingKept s)
  twenty_exactly = exact.twenty_exactly s room
