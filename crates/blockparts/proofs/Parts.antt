-- How the code puts the parts of a block into its bytes. Assumes nothing.
use mathlib.Core.Path.{◌≡◌, refl, ap, ◌∙◌}
use mathlib.Core.List.{List, ◌++◌}
use Prim.Native.Nat.{ℕ, zero, suc, ◌+◌, ◌*◌, ◌≤◌, ◌<◌}
use native.Mathlib.Numerals.{add-one}
use native.Mathlib.Omega.{arith}
use lib.ListN.{length, set, drop, replicate, length-set, get_or-replicate}
use Rattle.lists.specs.Places.{nth}
use Rattle.words.specs.Word.{word}
use Rattle.words.specs.Bytes.{with_word, bytes_of}
use Rattle.words.specs.Wrap.{wrapped, complement}
use Rattle.block.specs.Layout.{block_size, block_words, entry_words, check_word}
use Rattle.blockparts.specs.Parts.{with_entry, with_entries, with_check, written_by}
use Rattle.words.proofs.Bytes.{put_set, bytes_zeros}
use Rattle.words.proofs.Wrap.{wrapped_bytes}

-- A refusal writes nothing.
pub by_refused : (x : ℕ) (block before : List ℕ) → 0 < x → before ≡ written_by x block before
unfolding written_by
by_refused zero block before h = absurd (omega arith)
by_refused (suc n) block before h = refl

-- Number 0: the block is written.
pub by_none : (x : ℕ) (block before : List ℕ) → x ≡ 0 → block ++ drop block_size before ≡ written_by x block before
unfolding written_by
by_none x block before e = rw e refl

-- The bytes of a block's words x before bytes t.
abbrev pub laid : List ℕ → List ℕ → List ℕ
laid x t = bytes_of (nth x) block_words ++ t

-- 512 zero bytes are zero words.
pub zeros_laid : (t : List ℕ) → replicate block_size 0 ++ t ≡ laid (replicate block_words 0) t
zeros_laid t =
    ap (λ (b : List ℕ). b ++ t)
    (bytes_zeros (nth (replicate block_words 0)) block_words (λ k l. get_or-replicate block_words k 0 0 l))

-- A word put into them.
pub put_laid : (x t b c : List ℕ) (k w : ℕ) → length x ≡ block_words → k < block_words → b ≡ laid x t → c ≡ with_word b k w
    → c ≡ laid (set x k w) t
put_laid x t b c k w l h e q = q ∙ ap (λ (y : List ℕ). with_word y k w) e ∙ put_set x block_words k w t l h

-- The check put into a block's bytes.
pub check_laid :
    (x b t : List ℕ) → length x ≡ block_words → b ≡ laid x t
    → with_word b check_word (complement (wrapped (word b) check_word)) ≡ laid (with_check x) t
unfolding with_check
check_laid x b t l e =
    let k : wrapped (word b) check_word ≡ wrapped (nth x) check_word =
    ap (λ (y : List ℕ). wrapped (word y) check_word) e ∙ wrapped_bytes (nth x) block_words t check_word (omega arith) in
    rw (k, e) (put_set x block_words check_word (complement (wrapped (nth x) check_word)) t l (omega arith))

-- Entries from word `first` on.
module _ (first : ℕ) where
  -- An entry put into the bytes.
  entry_laid :
      (i a b c : ℕ) (x t : List ℕ) → first + entry_words * i + entry_words ≤ check_word → length x ≡ block_words
      → with_word
      (with_word (with_word (laid x t) (first + entry_words * i) a) (first + 1 + entry_words * i) b)
      (first + 2 + entry_words * i) c
      ≡ laid (with_entry first i a b c x) t
  unfolding with_entry
  entry_laid i a b c x t h l =
      let k0 : ℕ = first + entry_words * i in
      let k1 : ℕ = first + 1 + entry_words * i in
      let k2 : ℕ = first + 2 + entry_words * i in
      let x0 : List ℕ = set x k0 a in
      let x1 : List ℕ = set x0 k1 b in
      let l0 : length x0 ≡ block_words = length-set x k0 a ∙ l in
      let l1 : length x1 ≡ block_words = length-set x0 k1 b ∙ l0 in
      let W : List ℕ → ℕ → ℕ → List ℕ = λ b i w. with_word b i w in
      ap (λ (y : List ℕ). W (W y k1 b) k2 c) (put_set x block_words k0 a t l (omega arith))
      ∙ ap (λ (y : List ℕ). W y k2 c) (put_set x0 block_words k1 b t l0 (omega arith))
      ∙ put_set x1 block_words k2 c t l1 (omega arith)

  module _ (a b c : ℕ → ℕ) where
    -- Putting entries in keeps the length.
    pub entries_length : (n : ℕ) (x : List ℕ) → length (with_entries first a b c n x) ≡ length x
    unfolding with_entries with_entry
    entries_length zero x = refl
    entries_length (suc n) x = simp length-set (entries_length n x)

    -- A loop's turn: one entry more.
    pub entries_laid :
        (i : ℕ) (x y t : List ℕ) → first + entry_words * i + entry_words ≤ check_word → length x ≡ block_words
        → y ≡ laid (with_entries first a b c i x) t
        → with_word
        (with_word (with_word y (first + entry_words * i) (a i)) (first + 1 + entry_words * i) (b i))
        (first + 2 + entry_words * i) (c i)
        ≡ laid (with_entries first a b c (i + 1) x) t
    unfolding with_entries
    entries_laid i x y t h l e =
        rw (e, add-one i)
        (entry_laid i (a i) (b i) (c i) (with_entries first a b c i x) t h (entries_length i x ∙ l))
