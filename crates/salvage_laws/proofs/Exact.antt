-- Why each block is kept or dropped, and when each refusal is given. Assumes nothing.
use mathlib.Core.Path.{◌≡◌, refl, sym, ap, ◌∙◌}
use mathlib.Core.Bool.{true, false, ◌&&◌}
use mathlib.Core.List.{List}
use Prim.Native.Nat.{ℕ, ◌*◌, ◌<◌}
use native.Mathlib.Decide.{dec_lt}
use native.Mathlib.Omega.{arith}
use lib.ListN.{length, get_or, drop, replicate}
use lib.Dec.{leb}
use borrow.Author.Tests.{lt-leb, leb-false}
use Rattle.lists.specs.Exactly.{◌exactly_when◌, ◌not_but◌}
use Rattle.lists.specs.Places.{nth}
use Rattle.plan.specs.Ranges.{most_guests, guest_ok}
use Rattle.block.specs.Layout.{block_size}
use Rattle.block.specs.Reading.{guest_of, kind_ok}
use Rattle.blockfile.specs.File.{block_at, most_bytes}
use Rattle.planfile_laws.specs.Causes.{WrongSum, WrongKind, WrongZero, WrongTask}
use Rattle.salvage.specs.Keeping.{new_among, number_after, kept_places, drop_number, new_place}
use Rattle.salvage.specs.Fates.{fate, no_fate, fates_of}
use Rattle.salvage.specs.Moving.{moved}
use Rattle.salvage.specs.Outcome.{listed_in, kept_in, salvage_number, number_of, salvaged_of}
use Rattle.salvage_laws.specs.Saved.{saved}
use Rattle.salvage_laws.specs.Causes.{WrongAmongKept, TooLong, NoRoom, NothingKept}
use Rattle.lists.proofs.Exactly.{among, given_first, given_later}
use Rattle.lists.proofs.Table.{table_before}
use Rattle.planfile_laws.proofs.Causes.{both_fail, leb_fails, opening_fails, head_fails}
use Rattle.planfile_laws.proofs.BlockExact.{block_two, block_three, block_four, block_five, block_six, block_none}
use Rattle.salvage.proofs.Keeping.{kept_in_lem}
use Rattle.salvage_laws.proofs.Kept.{fate_number, fate_kept, There, there, new_fails}
use Rattle.salvage_laws.proofs.ReadsAsPlan.{saved_at}

-- What the list says of block k: each number exactly when its cause holds and none of those before it does.
module _ (s : List ℕ) (k : ℕ) where
  opening : ((kind_ok (block_at s k) && true) ≡ false) exactly_when WrongKind (block_at s k)
  opening = opening_fails false (block_at s k) k

  guest : ((guest_ok (guest_of (block_at s k)) && new_among s (kept_places s k) k) ≡ false) exactly_when WrongAmongKept s k
  guest =
      both_fail (guest_ok (guest_of (block_at s k))) (new_among s (kept_places s k) k) (head_fails (guest_of (block_at s k)))
      (new_fails s k)

  says : {n : ℕ} {A : Type 0} → (drop_number s k ≡ n) exactly_when A → ((fate s k).number ≡ n) exactly_when A
  says p = (λ e. p.0 (sym (fate_number s k) ∙ e), λ a. fate_number s k ∙ p.1 a)

  -- Kept exactly when no cause holds.
  pub kept_exactly :
      ((fate s k).number ≡ 0)
      exactly_when (
      WrongSum (block_at s k)
      not_but WrongKind (block_at s k)
      not_but WrongAmongKept s k
      not_but WrongZero (block_at s k)
      not_but (WrongTask (guest_of (block_at s k)) → ⊥))
  unfolding number_after
  kept_exactly = says (block_none (block_at s k) _ _ opening guest)

  -- Dropped by 2: the block's words do not sum to zero.
  pub dropped_by_two : ((fate s k).number ≡ 2) exactly_when WrongSum (block_at s k)
  unfolding number_after
  dropped_by_two = says (block_two (block_at s k) _ _ opening guest)

  -- By 3: the kind, and no place is asked.
  pub dropped_by_three : ((fate s k).number ≡ 3) exactly_when (WrongSum (block_at s k) not_but WrongKind (block_at s k))
  unfolding number_after
  dropped_by_three = says (block_three (block_at s k) _ _ opening guest)

  -- By 4: the guest's own numbers, or its id among those of earlier kept blocks.
  pub dropped_by_four :
      ((fate s k).number ≡ 4)
      exactly_when (WrongSum (block_at s k) not_but WrongKind (block_at s k) not_but WrongAmongKept s k)
  unfolding number_after
  dropped_by_four = says (block_four (block_at s k) _ _ opening guest)

  -- By 5: a byte that must be zero is not, a mark is past the tasks, or the server is neither Periodic nor Deferrable.
  pub dropped_by_five :
      ((fate s k).number ≡ 5)
      exactly_when (
      WrongSum (block_at s k)
      not_but WrongKind (block_at s k)
      not_but WrongAmongKept s k
      not_but WrongZero (block_at s k))
  unfolding number_after
  dropped_by_five = says (block_five (block_at s k) _ _ opening guest)

  -- By 6: a task's run, period or deadline is outside its range, or a bound task's period is no multiple.
  pub dropped_by_six :
      ((fate s k).number ≡ 6)
      exactly_when (
      WrongSum (block_at s k)
      not_but WrongKind (block_at s k)
      not_but WrongAmongKept s k
      not_but WrongZero (block_at s k)
      not_but WrongTask (guest_of (block_at s k)))
  unfolding number_after
  dropped_by_six = says (block_six (block_at s k) _ _ opening guest)

  -- A kept block, moved to the place that the list says, stands at that place of what is written.
  pub kept_there : k < listed_in (length s) → (fate s k).number ≡ 0
      → block_at (saved s) (fate s k).place ≡ moved (block_at s k) (fate s k).place
  kept_there l e =
      let z : drop_number s k ≡ 0 = sym (fate_number s k) ∙ e in
      let t : There s (listed_in (length s)) k = there s (listed_in (length s)) k l z in
      rw (fate_kept s k z)
      (saved_at s (new_place s k) t.within ∙ ap (λ (i : ℕ). moved (block_at s i) (new_place s k)) t.source)

-- The list has a line for each of its blocks, in order, on a refusal too.
pub list_says : (s : List ℕ) (room k : ℕ) → k < listed_in (length s)
    → get_or (salvaged_of s room).fates k no_fate ≡ fate s k
unfolding salvaged_of fates_of
list_says s room k l =
    table_before (fate s) no_fate (listed_in (length s)) (drop (listed_in (length s)) (replicate most_guests no_fate)) k l

-- No place is kept exactly when every block of the list is dropped.
none_kept_exactly : (s : List ℕ) → (leb 1 (length (kept_in s)) ≡ false) exactly_when NothingKept s
none_kept_exactly s = (
  λ e k l z.
      let t = there s (listed_in (length s)) k l (sym (fate_number s k) ∙ z) in
      omega (arith, t.within, leb-false 1 (length (kept_in s)) e),
  λ h.
      lt-leb 1 (length (kept_in s)) (elim (dec_lt (length (kept_in s)) 1) [
        | yes l ↦ l
        | no l ↦ let i = kept_in_lem s (listed_in (length s)) 0 (omega arith) in
            absurd (h (nth (kept_in s) 0) i.below (fate_number s (nth (kept_in s) 0) ∙ i.passes))
      ]),
)

-- The refusals of a whole file.
module _ (s : List ℕ) (room : ℕ) where
  -- 1: the file is above 4,096 bytes.
  pub one_exactly : (number_of s room ≡ 1) exactly_when TooLong s
  unfolding salvage_number among
  one_exactly = given_first (leb (length s) most_bytes) 1 _ (omega arith) refl (leb_fails (length s) most_bytes)

  -- 12: the output is shorter than the kept blocks.
  pub twelve_exactly : (number_of s room ≡ 12) exactly_when (TooLong s not_but NoRoom s room)
  unfolding salvage_number among
  twelve_exactly =
      given_later (leb (length s) most_bytes) 1 12 _ (λ q. omega arith) (leb_fails (length s) most_bytes)
      (given_first (leb (block_size * length (kept_in s)) room) 12 _ (omega arith) refl
      (leb_fails (block_size * length (kept_in s)) room))

  -- 20: nothing is kept.
  pub twenty_exactly : (number_of s room ≡ 20) exactly_when (TooLong s not_but NoRoom s room not_but NothingKept s)
  unfolding salvage_number among
  twenty_exactly =
      given_later (leb (length s) most_bytes) 1 20 _ (λ q. omega arith) (leb_fails (length s) most_bytes)
      (given_later (leb (block_size * length (kept_in s)) room) 12 20 _ (λ q. omega arith)
      (leb_fails (block_size * length (kept_in s)) room)
      (given_first (leb 1 (length (kept_in s))) 20 _ (omega arith) refl (none_kept_exactly s)))
