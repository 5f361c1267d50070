-- How the code comes to the refusal, the answer and the output. Assumes nothing.
use Rattle.std.proofs.Common.{◌≡◌, ℕ, zero, suc, ◌*◌, ◌/◌, ◌<◌, ◌≤◌, true, leb, List, ◌++◌, length, drop, sym, refl, ap, ◌∙◌, arith, le-leb, leb-true, Ok, Err}
use native.Mathlib.Decide.{dec_le}
use borrow.Author.Tests.{lt-leb}
use Rattle.lists.specs.Places.{nth}
use Rattle.lists.specs.Refusals.{unless_number}
use Rattle.plan.specs.Ranges.{most_guests}
use Rattle.block.specs.Layout.{block_size}
use Rattle.block.specs.Reading.{sums_to_zero}
use Rattle.blockfile.specs.File.{block_at, blocks_in, most_bytes}
use Rattle.salvage.specs.declared.Sifted.{Sifted}
use Rattle.salvage.specs.Fates.{fates_of}
use Rattle.salvage.specs.Moving.{moved_up}
use Rattle.salvage.specs.Sifting.{places_of, Sifts}
use Rattle.salvage.specs.Outcome.{listed_in, kept_in, salvage_number, number_of, blocks_written, answer_of, salvaged_of, output_by}
use Rattle.salvage.specs.Promises.{Salvages}
use Rattle.salvage.proofs.Keeping.{kept_in_lem, kept_most, passing}
use Rattle.salvage.proofs.Moving.{up_length}
use Rattle.lists.proofs.Refusals.{none_left, go_on, passed, ok_number, err_number}

-- The blocks of a file of at most 4,096 bytes are listed.
pub listed_whole : (size : ℕ) → size ≤ most_bytes → size / block_size ≡ listed_in size
listed_whole size h = rw (le-leb size most_bytes h) refl

-- Of a longer one none is.
pub listed_none : (size : ℕ) → most_bytes < size → 0 ≡ listed_in size
listed_none size h = rw (lt-leb size most_bytes h) refl

-- At most eight are listed, and whole blocks alone.
pub listed_most : (size : ℕ) → (listed_in size ≤ most_guests) × (listed_in size ≤ size / block_size)
listed_most size =
    elim (dec_le size most_bytes) [
      | yes h ↦ rw (← listed_whole size h) (omega arith, omega arith)
      | no h ↦ rw (← listed_none size (omega arith)) (omega arith, omega arith)
    ]

-- Where the file is not too long, the output has room and a block is kept, nothing is refused.
pub none : (size kept room : ℕ) → size ≤ most_bytes → block_size * kept ≤ room → 1 ≤ kept
    → 0 ≡ salvage_number size kept room
unfolding salvage_number
none size kept room s r h =
    sym
    (go_on 1 _ (le-leb size most_bytes s) ∙ go_on 12 _ (le-leb (block_size * kept) room r)
    ∙ go_on 20 _ (le-leb 1 kept h) ∙ none_left)

-- Where nothing is refused, the file is not too long, the output has room, and a block is kept.
pub record SalvageIn (size kept room : ℕ) : Type 0 where
  pub short : size ≤ most_bytes
  pub fits : block_size * kept ≤ room
  pub some : 1 ≤ kept

pub salvage_in : (size kept room : ℕ) → salvage_number size kept room ≡ 0 → SalvageIn size kept room
unfolding salvage_number
salvage_in size kept room e =
    let a1 = passed (leb size most_bytes) 1 _ (omega arith) e in
    let a12 = passed (leb (block_size * kept) room) 12 _ (omega arith) a1.1 in
    let a20 = passed (leb 1 kept) 20 _ (omega arith) a12.1 in
    record {
      short = leb-true size most_bytes a1.0;
      fits = leb-true (block_size * kept) room a12.0;
      some = leb-true 1 kept a20.0;
    }

written_none : (x kept : ℕ) (saved before : List ℕ) → 0 < x
    → (0 ≡ blocks_written x kept) × (before ≡ output_by x saved before)
unfolding blocks_written output_by
written_none zero kept saved before h = absurd (omega arith)
written_none (suc x) kept saved before h = (refl, refl)

written_all : (x kept : ℕ) (saved before : List ℕ) → x ≡ 0
    → (kept ≡ blocks_written x kept) × (saved ++ drop (length saved) before ≡ output_by x saved before)
unfolding blocks_written output_by
written_all x kept saved before e = rw e (refl, refl)

-- What the code has once the blocks are gone through: how many are listed, and what was found.
pub record GoneThrough (s : List ℕ) (n : ℕ) (t : Sifted) : Type 0 where
  pub whole : n ≡ listed_in (length s)
  pub sifted : Sifts s n t

-- The outcome, from that.
module _ {s : List ℕ} {n : ℕ} {t : Sifted} (g : GoneThrough s n t) where
  list_is : t.fates ≡ fates_of s n
  list_is = g.sifted.1

  kept_is : places_of t.kept ≡ kept_in s
  kept_is = g.sifted.0 ∙ rw g.whole refl

  -- At most eight blocks are listed.
  pub few_listed : n ≤ most_guests
  few_listed = omega (arith, g.whole, (listed_most (length s)).0)

  -- At most eight are kept.
  pub few_kept : length (places_of t.kept) ≤ most_guests
  few_kept = omega (arith, ap length kept_is, kept_most s (listed_in (length s)), (listed_most (length s)).0)

  -- Each of them is a block of the file, and its words sum to zero.
  pub each_kept : (j : ℕ) → j < length (places_of t.kept)
      → (nth (places_of t.kept) j < blocks_in s) × (sums_to_zero (block_at s (nth (places_of t.kept) j)) ≡ true)
  each_kept j l =
      let k = kept_in_lem s (listed_in (length s)) j (rw kept_is at l) in
      rw kept_is (omega (arith, k.below, (listed_most (length s)).1), (passing s (nth (kept_in s) j) k.passes).sums)

  module _ (before : List ℕ) where
    -- A refusal writes nothing.
    pub outcome_refused :
        {x : ℕ}
        → Err x ≡ unless_number (salvage_number (length s) (length (places_of t.kept)) (length before)) (tt {0})
        → Salvages s before (answer_of x 0 n t.fates) before
    unfolding salvaged_of
    outcome_refused {x} q =
        let e = err_number (salvage_number (length s) (length (places_of t.kept)) (length before)) (tt {0}) q in
        let z : x ≡ number_of s (length before) = rw kept_is at e.0 in
        let w =
        written_none (number_of s (length before)) (length (kept_in s)) (moved_up s (kept_in s)) before
        (omega (arith, z, e)) in
        (rw (list_is, z, g.whole, ← w.0) refl, w.1)

    module _ {w : Unit {0}}
        (q : Ok w ≡ unless_number (salvage_number (length s) (length (places_of t.kept)) (length before)) tt) where
      no_number : salvage_number (length s) (length (places_of t.kept)) (length before) ≡ 0
      no_number = (ok_number (salvage_number (length s) (length (places_of t.kept)) (length before)) q).0

      -- Where nothing is refused, the output has room.
      pub room_for : block_size * length (places_of t.kept) ≤ length before
      room_for = (salvage_in (length s) (length (places_of t.kept)) (length before) no_number).fits

      -- Then the kept blocks are written, and counted.
      pub outcome_written : {written : ℕ} (y : List ℕ)
          → written ≡ length (places_of t.kept)
          → y ≡ moved_up s (places_of t.kept) ++ drop (block_size * length (places_of t.kept)) before
          → Salvages s before (answer_of 0 written n t.fates) y
      unfolding salvaged_of blocks_written
      outcome_written y m e =
          let z : number_of s (length before) ≡ 0 = rw kept_is at no_number in
          let w = written_all (number_of s (length before)) (length (kept_in s)) (moved_up s (kept_in s)) before z in
          let l : block_size * length (kept_in s) ≡ length (moved_up s (kept_in s)) =
          sym (up_length s (listed_in (length s)) (listed_most (length s)).1) in (
            rw (m, list_is, g.whole, kept_is, z) refl,
            e ∙ rw (kept_is, l) w.1,
          )
