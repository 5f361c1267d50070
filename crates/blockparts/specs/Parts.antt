-- What plan blocks and log blocks have in common when they are written: entries of three words, the check, and the lent
-- bytes.
use Rattle.std.specs.Prelude.{List, ◌++◌, ℕ, zero, suc, ◌+◌, ◌*◌, set, drop}
use Rattle.lists.specs.Places.{nth}
use Rattle.words.specs.Wrap.{wrapped, complement}
use Rattle.block.specs.Layout.{block_size, entry_words, check_word}

-- Words x with the three numbers of entry i put in; the first entry starts at word `first`.
unfoldable pub with_entry : (first i a b c : ℕ) → List ℕ → List ℕ
with_entry first i a b c x =
    set (set (set x (first + entry_words * i) a) (first + 1 + entry_words * i) b) (first + 2 + entry_words * i) c

-- Words x with the first n entries put in, of which entry i has the numbers a i, b i and c i.
unfoldable pub with_entries : (first : ℕ) → (a b c : ℕ → ℕ) → (n : ℕ) → List ℕ → List ℕ
with_entries first a b c zero x = x
with_entries first a b c (suc n) x = with_entry first n (a n) (b n) (c n) (with_entries first a b c n x)

-- Words x with the check put in, the wrapping complement of the rest.
unfoldable pub with_check : List ℕ → List ℕ
with_check x = set x check_word (complement (wrapped (nth x) check_word))

-- The lent bytes: the block and what stood behind it, or on a refusal what stood there.
unfoldable pub written_by : (number : ℕ) → (block before : List ℕ) → List ℕ
written_by zero block before = block ++ drop block_size before
written_by (suc n) block before = before
