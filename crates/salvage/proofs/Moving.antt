-- A block moved, word by word, and how the code comes to it. Assumes nothing.
use Rattle.std.proofs.Common.{◌≡◌, ℕ, zero, suc, ◌+◌, ◌*◌, ◌/◌, ◌%◌, ◌<◌, ◌≤◌, true, List, [], ◌∷◌, ◌++◌, length, take, drop, set, sym, refl, ap, ◌∙◌, mod-eq_of_lt, add-one, arith, take_all, eqb-true}
use Rattle.lists.specs.Places.{nth}
use Rattle.lists.specs.Sum.{sum_to}
use Rattle.words.specs.Word.{word_wrap, word}
use Rattle.words.specs.Bytes.{with_word}
use Rattle.words.specs.Wrap.{wrapped, complement}
use Rattle.block.specs.Layout.{block_size, block_words, kind_place_word, last_place, check_word, halves}
use Rattle.block.specs.Reading.{kind_in, sums_to_zero}
use Rattle.blockfile.specs.File.{block_at, blocks_in}
use Rattle.salvage.specs.Keeping.{kept_places, new_place}
use Rattle.salvage.specs.Moving.{placed_at, moved, moved_up}
use Rattle.lists.proofs.Sum.{sum_last, sum_change}
use Rattle.blockfile.proofs.File.{part_long}
use Rattle.blockfile.proofs.Joined.{joined_length}
use Rattle.salvage.proofs.Keeping.{kept_in_lem}
use Rattle.words.proofs.Wrap.{complement_only}
use Rattle.words.proofs.WithWord.{with_length, with_front, word_with, word_beside}

-- One byte more is copied.
copy_next : (n : ℕ) (b o : List ℕ) → n < length b → n < length o
    → set (take n b ++ drop n o) n (nth b n) ≡ take (suc n) b ++ drop (suc n) o
copy_next zero (x ∷ b) (y ∷ o) h l = refl
copy_next (suc n) (x ∷ b) (y ∷ o) h l = ap (λ (r : List ℕ). x ∷ r) (copy_next n b o (omega arith) (omega arith))
copy_next n [] o h l = absurd (omega arith)
copy_next n (x ∷ b) [] h l = absurd (omega arith)

-- A loop's turn.
pub copy_turn : (n : ℕ) (b o x : List ℕ) (v : ℕ) → n < length b → n < length o → x ≡ take n b ++ drop n o → v ≡ nth b n
    → set x n v ≡ take (n + 1) b ++ drop (n + 1) o
copy_turn n b o x v h l e q = rw (e, q, add-one n) (copy_next n b o h l)

-- The loop's end: the whole block is copied.
pub copy_done : (n : ℕ) (b o x : List ℕ) → n ≡ block_size → length b ≡ block_size → x ≡ take n b ++ drop n o
    → x ≡ b ++ drop block_size o
copy_done n b o x m h e = e ∙ rw (m, take_all block_size b (omega arith)) refl

-- A moved block has 512 bytes.
pub moved_length : (b : List ℕ) (p : ℕ) → length b ≡ block_size → length (moved b p) ≡ block_size
unfolding moved
moved_length b p long =
    with_length (placed_at b p) (4 * check_word) (complement (wrapped (word (placed_at b p)) check_word))
    ∙ with_length b (4 * kind_place_word) (halves (kind_in b) p)
    ∙ long

-- The check once another opening stands: where the words summed to zero, the old check and opening less the new one.
pub check_is : (b : List ℕ) (w check old both r : ℕ) → length b ≡ block_size → sums_to_zero b ≡ true → w < word_wrap
    → check ≡ word b check_word → old ≡ word b kind_place_word → both ≡ (check + old) % word_wrap
    → (r + w) % word_wrap ≡ both → r < word_wrap
    → r ≡ complement (wrapped (word (with_word b kind_place_word w)) check_word)
check_is b w check old both r long sums fits c o p q l =
    let z : wrapped (word b) block_words ≡ 0 = eqb-true (wrapped (word b) block_words) 0 sums in
    let last = sum_last (word b) check_word in
    let opening : word (with_word b kind_place_word w) kind_place_word ≡ w =
    word_with b kind_place_word w (omega arith) ∙ mod-eq_of_lt fits in
    let other =
    sum_change (word b) (word (with_word b kind_place_word w)) check_word kind_place_word (omega arith)
    (λ j h n. sym (word_beside b kind_place_word w j n)) in
    by (sum_to (word b) check_word) (sum_to (word (with_word b kind_place_word w)) check_word) old check w both r
    (omega arith) (omega arith) p q l
  where
    whole : (x : ℕ) → x ≡ x % word_wrap + word_wrap * (x / word_wrap)
    whole x = omega arith

    balance : (S T old check w both r x y z : ℕ) → S + check ≡ word_wrap * x → S + w ≡ T + old
        → check + old ≡ both + word_wrap * y → r + w ≡ both + word_wrap * z → (T + r) % word_wrap ≡ 0
    balance S T old check w both r x y z a b p q = omega arith

    by : (S T old check w both r : ℕ) → (S + check) % word_wrap ≡ 0 → S + w ≡ T + old → both ≡ (check + old) % word_wrap
        → (r + w) % word_wrap ≡ both → r < word_wrap → r ≡ complement (T % word_wrap)
    by S T old check w both r a b p q l =
        let x = whole (S + check) in
        let y = whole (check + old) in
        let z = whole (r + w) in
        sym
        (complement_only r T
        (balance S T old check w both r ((S + check) / word_wrap) ((check + old) / word_wrap) ((r + w) / word_wrap)
        (omega (arith, x, a)) b (omega (arith, y, p)) (omega (arith, z, q)))
        l)

-- Both words put into a copy of the block.
pub moved_laid : (b t x y z : List ℕ) (p opening check : ℕ) → length b ≡ block_size
    → x ≡ b ++ t → y ≡ with_word x kind_place_word opening → z ≡ with_word y check_word check
    → opening ≡ halves (kind_in b) p
    → check ≡ complement (wrapped (word (with_word b kind_place_word opening)) check_word)
    → z ≡ moved b p ++ t
unfolding moved
moved_laid b t x y z p opening check long e f g o c =
    let one : y ≡ placed_at b p ++ t =
    f ∙ rw (e, o) (with_front b (4 * kind_place_word) (halves (kind_in b) p) t (omega arith)) in
    let l = with_length b (4 * kind_place_word) (halves (kind_in b) p) in
    g
    ∙ rw (one, c, o)
    (with_front (placed_at b p) (4 * check_word) (complement (wrapped (word (placed_at b p)) check_word)) t (omega arith))

-- The words of a moved block.
module _ (b : List ℕ) (p : ℕ) (long : length b ≡ block_size) (low : p ≤ last_place) where
  placed_opening : word (placed_at b p) kind_place_word ≡ halves (kind_in b) p
  placed_opening =
      word_with b kind_place_word (halves (kind_in b) p) (omega arith)
      ∙ fits (halves (kind_in b) p) (omega arith)
    where
      fits : (w : ℕ) → w < word_wrap → w % word_wrap ≡ w
      fits w h = mod-eq_of_lt h

  placed_other : (k : ℕ) → 0 < k → word (placed_at b p) k ≡ word b k
  placed_other k h = word_beside b kind_place_word (halves (kind_in b) p) k (λ e. omega arith)

  -- The opening has the kind as it was, and the place.
  pub moved_opening : word (moved b p) kind_place_word ≡ halves (kind_in b) p
  unfolding moved
  moved_opening =
      word_beside (placed_at b p) check_word _ kind_place_word (λ e. omega arith) ∙ placed_opening

  -- All others but the check are as they were.
  pub moved_other : (k : ℕ) → 0 < k → k < check_word → word (moved b p) k ≡ word b k
  unfolding moved
  moved_other k h l = word_beside (placed_at b p) check_word _ k (λ e. omega arith) ∙ placed_other k h

-- The kept ones among the first n blocks of a file, moved up: each has 512 bytes.
pub up_long : (s : List ℕ) (n : ℕ) → n ≤ blocks_in s → (j : ℕ) → j < new_place s n
    → length (moved (block_at s (nth (kept_places s n) j)) j) ≡ block_size
up_long s n h j l =
    let k = nth (kept_places s n) j in
    moved_length (block_at s k) j (part_long s (block_at s k) k refl (omega (arith, (kept_in_lem s n j l).below)))

pub up_length : (s : List ℕ) (n : ℕ) → n ≤ blocks_in s → length (moved_up s (kept_places s n)) ≡ block_size * new_place s n
unfolding moved_up
up_length s n h =
    joined_length (λ j. moved (block_at s (nth (kept_places s n) j)) j) (new_place s n) (up_long s n h)
