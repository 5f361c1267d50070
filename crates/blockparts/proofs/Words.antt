-- The words of a block one by one: what was put in stands, with its check, and is read back from the bytes. Assumes
-- nothing.
use mathlib.Core.Path.{◌≡◌, refl, ◌∙◌}
use mathlib.Core.Logic.{⊎_elim}
use mathlib.Core.Bool.{true}
use mathlib.Core.List.{List, [], append-nil}
use Prim.Native.Nat.{ℕ, zero, suc, ◌+◌, ◌*◌, ◌≤◌, ◌<◌}
use native.Mathlib.Decide.{dec_lt}
use native.Mathlib.Nat.{eq-or-lt_of_le}
use native.Mathlib.Omega.{arith}
use lib.ListN.{length, set, replicate, length-set, length-replicate, get_or-replicate, get_or-eq_default}
use lib.Seq.{get_or-set_same, get_or-set_other, take_all}
use borrow.Author.Tests.{eq-eqb, eqb-true}
use Rattle.lists.specs.Places.{nth}
use Rattle.lists.specs.Sum.{sum_to}
use Rattle.words.specs.Word.{word_wrap, word}
use Rattle.words.specs.Bytes.{Below, Bytes, bytes_of}
use Rattle.words.specs.Wrap.{wrapped, complement}
use Rattle.block.specs.Layout.{block_size, block_words, entry_words, check_word}
use Rattle.block.specs.Reading.{sums_to_zero}
use Rattle.blockparts.specs.Parts.{with_entry, with_entries, with_check}
use Rattle.lists.proofs.Places.{set_get}
use Rattle.lists.proofs.Sum.{sum_last, sum_same}
use Rattle.words.proofs.Word.{word_fits}
use Rattle.words.proofs.Bytes.{bytes_ext, bytes_of_word, word_bytes_of}
use Rattle.words.proofs.Wrap.{complement_only, complement_sum}
use Rattle.blockparts.proofs.Parts.{entries_length}

-- A number that fits put among numbers that fit.
pub set_fits : (b : ℕ) (x : List ℕ) (i v : ℕ) → Below b x → v < b → Below b (set x i v)
set_fits b x i v f h k = ⊎_elim (λ e. rw e h) (λ e. rw e (f k)) (set_get x i v k)

-- Words of zero fit.
pub zeros_fit : Below word_wrap (replicate block_words 0)
zeros_fit k =
    elim (dec_lt k block_words) [
      | yes h ↦ rw (get_or-replicate {A = ℕ} block_words k 0 0 h) (omega arith)
      | no h ↦ rw
          (get_or-eq_default {A = ℕ} (replicate block_words 0) 0 {n = k}
          (rw (length-replicate {A = ℕ} block_words 0) (omega arith)))
          (omega arith)
    ]

-- Entries from word `first` on.
module _ (first : ℕ) where
  -- An entry that stands.
  pub record EntryAt (x : List ℕ) (i a b c : ℕ) : Type 0 where
    pub one : nth x (first + entry_words * i) ≡ a
    pub two : nth x (first + 1 + entry_words * i) ≡ b
    pub three : nth x (first + 2 + entry_words * i) ≡ c

  -- A word of entry i is one of its three.
  pub entry_word :
      (P : ℕ → Type 0) (i k : ℕ)
      → first + entry_words * i ≤ k
      → k < first + entry_words * suc i
      → P (first + entry_words * i)
      → P (first + 1 + entry_words * i)
      → P (first + 2 + entry_words * i)
      → P k
  entry_word P i k l h one two three =
      elim (dec_lt k (first + 1 + entry_words * i)) [
        | yes m ↦ let e : k ≡ first + entry_words * i = omega arith in rw e one
        | no m ↦ elim (dec_lt k (first + 2 + entry_words * i)) [
          | yes n ↦ let e : k ≡ first + 1 + entry_words * i = omega arith in rw e two
          | no n ↦ let e : k ≡ first + 2 + entry_words * i = omega arith in rw e three
        ]
      ]

  -- The entry put in stands.
  entry_here : (n a b c : ℕ) (x : List ℕ) → first + entry_words * n + entry_words ≤ check_word → length x ≡ block_words
      → EntryAt (with_entry first n a b c x) n a b c
  unfolding with_entry
  entry_here n a b c x h l =
      let k0 : ℕ = first + entry_words * n in
      let k1 : ℕ = first + 1 + entry_words * n in
      let k2 : ℕ = first + 2 + entry_words * n in
      let x1 : List ℕ = set x k0 a in
      let x2 : List ℕ = set x1 k1 b in
      let l1 : length x1 ≡ block_words = length-set x k0 a ∙ l in
      let l2 : length x2 ≡ block_words = length-set x1 k1 b ∙ l1 in
      record {
        one =
            get_or-set_other x2 k2 k0 c 0 (λ q. omega arith)
            ∙ get_or-set_other x1 k1 k0 b 0 (λ q. omega arith)
            ∙ get_or-set_same x k0 a 0 (omega arith);
        two = get_or-set_other x2 k2 k1 c 0 (λ q. omega arith) ∙ get_or-set_same x1 k1 b 0 (omega arith);
        three = get_or-set_same x2 k2 c 0 (omega arith);
      }

  -- The words before an entry put in, and those after it, are as they were.
  entry_other : (n a b c : ℕ) (x : List ℕ) (k : ℕ)
      → (first + entry_words * n ≤ k → first + entry_words * suc n ≤ k)
      → nth (with_entry first n a b c x) k ≡ nth x k
  unfolding with_entry
  entry_other n a b c x k h =
      let k0 : ℕ = first + entry_words * n in
      let k1 : ℕ = first + 1 + entry_words * n in
      get_or-set_other (set (set x k0 a) k1 b) (first + 2 + entry_words * n) k c 0 (λ q. omega (arith, h (omega arith)))
      ∙ get_or-set_other (set x k0 a) k1 k b 0 (λ q. omega (arith, h (omega arith)))
      ∙ get_or-set_other x k0 k a 0 (λ q. omega (arith, h (omega arith)))

  module _ (a b c : ℕ → ℕ) where
    -- The words before the entries are as they were.
    pub entries_before : (n : ℕ) (x : List ℕ) (k : ℕ) → k < first → nth (with_entries first a b c n x) k ≡ nth x k
    unfolding with_entries
    entries_before zero x k h = refl
    entries_before (suc n) x k h =
        entry_other n (a n) (b n) (c n) (with_entries first a b c n x) k (λ q. omega arith) ∙ entries_before n x k h

    -- The words after the entries are as they were.
    pub entries_after : (n : ℕ) (x : List ℕ) (k : ℕ) → first + entry_words * n ≤ k
        → nth (with_entries first a b c n x) k ≡ nth x k
    unfolding with_entries
    entries_after zero x k h = refl
    entries_after (suc n) x k h =
        entry_other n (a n) (b n) (c n) (with_entries first a b c n x) k (λ q. h) ∙ entries_after n x k (omega arith)

    -- Each entry stands.
    pub entries_at :
        (n : ℕ) (x : List ℕ) → first + entry_words * n ≤ check_word → length x ≡ block_words → (i : ℕ) → i < n
        → EntryAt (with_entries first a b c n x) i (a i) (b i) (c i)
    unfolding with_entries
    entries_at zero x h l i m = absurd (omega arith)
    entries_at (suc n) x h l i m =
        let y : List ℕ = with_entries first a b c n x in
        ⊎_elim
        (λ (q : i ≡ n). rw q (entry_here n (a n) (b n) (c n) y (omega arith) (entries_length first a b c n x ∙ l)))
        (λ (q : i < n).
        let o = entries_at n x (omega arith) l i q in
        let kept : (k : ℕ) → k < first + entry_words * n → nth (with_entry first n (a n) (b n) (c n) y) k ≡ nth y k =
        λ k u. entry_other n (a n) (b n) (c n) y k (λ v. omega arith) in
        record {
          one = kept _ (omega arith) ∙ o.one;
          two = kept _ (omega arith) ∙ o.two;
          three = kept _ (omega arith) ∙ o.three;
        })
        (eq-or-lt_of_le {n = i} {m = n} (omega arith))

    -- Among numbers that fit, entries that fit keep it so.
    pub entries_fit : (m n : ℕ) (x : List ℕ) → ((i : ℕ) → i < n → (a i < m) × ((b i < m) × (c i < m))) → Below m x
        → Below m (with_entries first a b c n x)
    unfolding with_entries with_entry
    entries_fit m zero x h f = f
    entries_fit m (suc n) x h f =
        let y : List ℕ = with_entries first a b c n x in
        let k0 : ℕ = first + entry_words * n in
        let k1 : ℕ = first + 1 + entry_words * n in
        let e = h n (omega arith) in
        set_fits m (set (set y k0 (a n)) k1 (b n)) (first + 2 + entry_words * n) (c n)
        (set_fits m (set y k0 (a n)) k1 (b n)
        (set_fits m y k0 (a n) (entries_fit m n x (λ i l. h i (omega arith)) f) e.0) e.1.0)
        e.1.1

-- The words x of a block with the check put in.
module _ (x : List ℕ) where
  -- Every other word is as it was.
  check_other : (k : ℕ) → k < check_word → nth (with_check x) k ≡ nth x k
  unfolding with_check
  check_other k h = get_or-set_other x check_word k (complement (wrapped (nth x) check_word)) 0 (λ q. omega arith)

  module _ (long : length x ≡ block_words) where
    -- The check is the complement of the rest.
    check_at : nth (with_check x) check_word ≡ complement (wrapped (nth x) check_word)
    unfolding with_check
    check_at = get_or-set_same x check_word (complement (wrapped (nth x) check_word)) 0 (omega arith)

    module _ (fits : Below word_wrap x) where
      -- Words that fit are read back.
      check_fits : Below word_wrap (with_check x)
      unfolding with_check
      check_fits = set_fits word_wrap x check_word (complement (wrapped (nth x) check_word)) fits (omega arith)

      full_back : (k : ℕ) → k < block_words → word (bytes_of (nth (with_check x)) block_words) k ≡ nth (with_check x) k
      full_back k l =
          rw (← append-nil (bytes_of (nth (with_check x)) block_words))
          (word_bytes_of (nth (with_check x)) block_words [] k l (check_fits k))

      pub word_back : (k : ℕ) → k < check_word → word (bytes_of (nth (with_check x)) block_words) k ≡ nth x k
      word_back k l = full_back k (omega arith) ∙ check_other k l

      -- They sum to zero.
      pub sums_back : sums_to_zero (bytes_of (nth (with_check x)) block_words) ≡ true
      sums_back =
          let w : ℕ → ℕ = word (bytes_of (nth (with_check x)) block_words) in
          eq-eqb (wrapped w block_words) 0
          (rw (
            sum_last w check_word,
            sum_same w (nth x) check_word word_back,
            full_back check_word (omega arith),
            check_at,
          )
          (complement_sum (sum_to (nth x) check_word)))

    -- Bytes b whose words are x up to the check and sum to zero: no other check does that, so they are what is written.
    module _ (b : List ℕ) (bytes : Bytes b) (sums : sums_to_zero b ≡ true)
        (same : (k : ℕ) → k < check_word → nth x k ≡ word b k) where
      last_at : nth (with_check x) check_word ≡ word b check_word
      last_at =
          let z : wrapped (word b) block_words ≡ 0 = eqb-true _ _ sums in
          check_at
          ∙ rw (sum_same (nth x) (word b) check_word same)
          (complement_only (word b check_word) (sum_to (word b) check_word)
          (rw (sum_last (word b) check_word) at z) (word_fits b check_word bytes))

      full_at : (k : ℕ) → k < block_words → nth (with_check x) k ≡ word b k
      full_at k l =
          ⊎_elim (λ e. rw e last_at) (λ m. check_other k m ∙ same k m)
          (eq-or-lt_of_le {n = k} {m = check_word} (omega arith))

      pub again : length b ≡ block_size → bytes_of (nth (with_check x)) block_words ≡ b
      again l =
          bytes_ext (nth (with_check x)) (word b) block_words full_at
          ∙ bytes_of_word b block_words (omega arith) bytes
          ∙ take_all block_size b (omega arith)
