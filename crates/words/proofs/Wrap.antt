-- Laws of sums modulo 2 to the 32. Assumes nothing.
use Rattle.std.proofs.Common.{◌≡◌, ℕ, zero, suc, ◌+◌, ◌%◌, ◌<◌, ◌≤◌, List, ◌++◌, refl, arith}
use Rattle.lists.specs.Sum.{sum_to}
use Rattle.words.specs.Word.{word_wrap, word}
use Rattle.words.specs.Bytes.{bytes_of}
use Rattle.words.specs.Wrap.{wrapped, complement}
use Rattle.lists.proofs.Sum.{sum_none, sum_next}
use Rattle.words.proofs.Bytes.{word_bytes_of_mod}

-- Nothing is summed.
pub wrapped_none : (f : ℕ → ℕ) → 0 ≡ wrapped f 0
wrapped_none f = omega (arith, sum_none f)

-- A loop's turn: one more word is added.
pub wrapped_next : (f : ℕ → ℕ) (k s w : ℕ) → s ≡ wrapped f k → w ≡ f k → (s + w) % word_wrap ≡ wrapped f (k + 1)
wrapped_next f k s w hs hw = omega (arith, sum_next f k)

-- A word that makes the sum zero is the complement of the rest.
pub complement_only : (r S : ℕ) → (S + r) % word_wrap ≡ 0 → r < word_wrap → complement (S % word_wrap) ≡ r
complement_only r S h l = omega arith

-- The complement of a sum makes it zero.
pub complement_sum : (S : ℕ) → (S + complement (S % word_wrap)) % word_wrap ≡ 0
complement_sum S = omega arith

-- Sums of a number's lower 32 bits are sums of the numbers.
low_next : (s r a b : ℕ) → s % word_wrap ≡ r % word_wrap → a ≡ b % word_wrap → (s + a) % word_wrap ≡ (r + b) % word_wrap
low_next s r a b h e = omega arith

-- The words of bytes sum to what the words put in do.
pub wrapped_bytes : (f : ℕ → ℕ) (n : ℕ) (t : List ℕ) (m : ℕ) → m ≤ n → wrapped (word (bytes_of f n ++ t)) m ≡ wrapped f m
unfolding sum_to
wrapped_bytes f n t zero h = refl
wrapped_bytes f n t (suc m) h =
    low_next (sum_to (word (bytes_of f n ++ t)) m) (sum_to f m) _ (f m) (wrapped_bytes f n t m (omega arith))
    (word_bytes_of_mod f n t m h)
