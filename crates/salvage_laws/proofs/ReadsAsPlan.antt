-- What is written reads as a plan, whose records are those of the kept blocks in order. Assumes nothing.
use mathlib.Core.Path.{◌≡◌, refl, sym, ap, ◌∙◌}
use mathlib.Core.Logic.{⊎_elim}
use mathlib.Core.Bool.{true}
use mathlib.Core.List.{List, ◌++◌}
use Prim.Native.Nat.{ℕ, ◌*◌, ◌%◌, ◌≤◌, ◌<◌}
use native.Mathlib.Omega.{arith}
use lib.ListN.{length, drop, replicate}
use borrow.Author.Tests.{eq-eqb, le-leb}
use Rattle.lists.specs.Places.{nth}
use Rattle.words.specs.Bytes.{Bytes}
use Rattle.plan.specs.declared.Guest.{Guest}
use Rattle.plan.specs.Records.{blank}
use Rattle.plan.specs.Ranges.{most_guests}
use Rattle.plan.specs.First.{fine}
use Rattle.plan.specs.Order.{new_id}
use Rattle.block.specs.Layout.{block_size}
use Rattle.block.specs.Reading.{place_in, guest_of}
use Rattle.blockfile.specs.File.{block_at, id_at, blocks_in, most_bytes, size_ok, number_at, file_refusal}
use Rattle.blockfile.specs.Records.{records_of}
use Rattle.planfile.specs.Records.{read_of}
use Rattle.salvage.specs.Keeping.{new_among, kept_places}
use Rattle.salvage.specs.Moving.{moved, moved_up}
use Rattle.salvage.specs.Outcome.{listed_in, kept_in, number_of}
use Rattle.salvage_laws.specs.Saved.{kept_block, saved, Anew}
use Rattle.lists.proofs.All.{and_true, all_ext}
use Rattle.lists.proofs.Table.{table_ext}
use Rattle.plan.proofs.First.{first_fine}
use Rattle.blockfile.proofs.File.{part_long, sized}
use Rattle.blockfile.proofs.Joined.{joined_at}
use Rattle.planfile.proofs.Records.{reading, read_fine}
use Rattle.planfile_laws.proofs.OnlyOurs.{block_bytes}
use Rattle.salvage.proofs.Keeping.{kept_in_lem, kept_most, passing}
use Rattle.salvage.proofs.Moving.{up_long, up_length}
use Rattle.salvage.proofs.Outcome.{listed_most, salvage_in}
use Rattle.salvage_laws.proofs.Moved.{place_anew, record_same, passes_moved, only_anew}
use Rattle.salvage_laws.proofs.Kept.{ids_new}

module _ (s : List ℕ) where
  few : length (kept_in s) ≤ most_guests
  few = omega (arith, kept_most s (listed_in (length s)), (listed_most (length s)).0)

  -- Kept block j is one of the file's.
  source_below : (j : ℕ) → j < length (kept_in s) → nth (kept_in s) j < blocks_in s
  source_below j l =
      omega (arith, (kept_in_lem s (listed_in (length s)) j l).below, (listed_most (length s)).1)

  source_long : (j : ℕ) → j < length (kept_in s) → length (kept_block s j) ≡ block_size
  source_long j l = part_long s (kept_block s j) (nth (kept_in s) j) refl (source_below j l)

  -- The saved bytes have as many blocks as are kept, and the kept block j, moved, is block j of them.
  pub saved_length : length (saved s) ≡ block_size * length (kept_in s)
  saved_length = up_length s (listed_in (length s)) (listed_most (length s)).1

  pub saved_at : (j : ℕ) → j < length (kept_in s) → block_at (saved s) j ≡ moved (kept_block s j) j
  unfolding moved_up
  saved_at j l =
      joined_at (λ i. moved (kept_block s i) i) (length (kept_in s))
      (up_long s (listed_in (length s)) (listed_most (length s)).1) j l

  record_at : (j : ℕ) → j < length (kept_in s) → guest_of (block_at (saved s) j) ≡ guest_of (kept_block s j)
  record_at j l =
      ap (λ (b : List ℕ). guest_of b) (saved_at j l)
      ∙ record_same (kept_block s j) j (source_long j l) (omega (arith, few))

  new_at : (j : ℕ) → j < length (kept_in s) → new_id (id_at (saved s)) j ≡ true
  unfolding new_id
  new_at j l =
      let id : (i : ℕ) → i ≤ j → id_at (saved s) i ≡ id_at s (nth (kept_in s) i) =
      λ i m. ap (λ (g : Guest). g.id) (record_at i (omega arith)) in
      all_ext _ _ j (λ i m. rw (id i (omega arith), id j (omega arith)) refl) ∙ ids_new s (listed_in (length s)) j l

  number_zero : (j : ℕ) → j < length (kept_in s) → number_at true (saved s) j ≡ 0
  unfolding number_at
  number_zero j l =
      let k = nth (kept_in s) j in
      rw (saved_at j l)
      (passes_moved (kept_block s j) j (source_long j l) (omega (arith, few)) (new_among s (kept_places s k) k)
      (new_id (id_at (saved s)) j) (passing s k (kept_in_lem s (listed_in (length s)) j l).passes) (new_at j l))

  count_is : blocks_in (saved s) ≡ length (kept_in s)
  count_is = rw saved_length (omega arith)

  module _ (some : 1 ≤ length (kept_in s)) where
    size_right : size_ok (length (saved s)) ≡ true
    size_right =
        let n = length (kept_in s) in
        rw saved_length
        (and_true
        (and_true (le-leb 1 (block_size * n) (omega arith)) (le-leb (block_size * n) most_bytes (omega (arith, few))))
        (eq-eqb (block_size * n % block_size) 0 (omega arith)))

    nothing_refused : fine ≡ file_refusal (saved s)
    nothing_refused =
        sym
        (first_fine (number_at true (saved s)) (blocks_in (saved s)) 0 (λ z l m. number_zero z (omega (arith, count_is))))
        ∙ sized true (saved s) size_right

    records_are : records_of (block_at (saved s)) (length (kept_in s)) ≡ records_of (kept_block s) (length (kept_in s))
    unfolding records_of
    records_are =
        ap (λ (gs : List Guest). gs ++ drop (length (kept_in s)) (replicate most_guests blank))
        (table_ext _ _ (length (kept_in s)) record_at)

    reads : read_of (saved s)
        ≡ reading fine (record { count = length (kept_in s); guests = records_of (kept_block s) (length (kept_in s)) })
    reads =
        sym (read_fine (saved s) fine nothing_refused (omega arith))
        ∙ ap (λ (n : ℕ). reading fine (record { count = n; guests = records_of (block_at (saved s)) n })) count_is
        ∙ ap (λ (gs : List Guest). reading fine (record { count = length (kept_in s); guests = gs })) records_are

-- Where nothing is refused, a block is kept.
pub some_kept : (s : List ℕ) (room : ℕ) → number_of s room ≡ 0 → 1 ≤ length (kept_in s)
some_kept s room e = (salvage_in (length s) (length (kept_in s)) room e).some

-- Where nothing is refused, what is written reads as a plan without a refusal: as many guests as blocks are kept, and
-- the records of the kept blocks in order.
pub reads_as_plan : (s : List ℕ) (room : ℕ) → number_of s room ≡ 0
    → read_of (saved s)
    ≡ record {
      refusal = fine;
      plan = record { count = length (kept_in s); guests = records_of (kept_block s) (length (kept_in s)) };
    }
reads_as_plan s room e = reads s (some_kept s room e)

-- It is not refused.
pub not_refused : (s : List ℕ) (room : ℕ) → number_of s room ≡ 0 → file_refusal (saved s) ≡ fine
not_refused s room e = sym (nothing_refused s (some_kept s room e))

-- Kept block j says place j.
pub place_is : (s : List ℕ) (j : ℕ) → j < length (kept_in s) → place_in (block_at (saved s) j) ≡ j
place_is s j l = rw (saved_at s j l) (place_anew (kept_block s j) j (source_long s j l) (omega (arith, few s)))

-- A kept block differs from its source in the bytes of its place and of its check alone.
pub only_place_and_check : (s : List ℕ) → Bytes s → (j : ℕ) → j < length (kept_in s) → (i : ℕ) → (Anew i → ⊥)
    → nth (block_at (saved s) j) i ≡ nth (kept_block s j) i
only_place_and_check s bytes j l i n =
    rw (saved_at s j l)
    (only_anew (kept_block s j) j (block_bytes s bytes (nth (kept_in s) j)) (source_long s j l) (omega (arith, few s)) i
    n)

-- Byte 22 is as it is found.
pub byte_22_stays : (s : List ℕ) → Bytes s → (j : ℕ) → j < length (kept_in s)
    → nth (block_at (saved s) j) 22 ≡ nth (kept_block s j) 22
byte_22_stays s bytes j l =
    only_place_and_check s bytes j l 22 (λ a. ⊎_elim (λ p. omega (arith, p.1)) (λ p. omega (arith, p.0)) a)
