-- What is put together of bytes is bytes. Assumes nothing.
use mathlib.Core.Path.{◌≡◌}
use mathlib.Core.List.{List, ◌++◌}
use Prim.Native.Nat.{ℕ, zero, suc, ◌+◌, ◌-◌}
use native.Mathlib.Decide.{dec_lt}
use native.Mathlib.Omega.{arith}
use lib.ListN.{length, get_or-append}
use lib.Seq.{get_or-append-add}
use Rattle.lists.specs.Places.{nth}
use Rattle.words.specs.Bytes.{Bytes, bytes4, bytes_of}
use Rattle.plan.specs.declared.Guest.{Guest}
use Rattle.block.specs.Layout.{block_words}
use Rattle.blockfile.specs.Joined.{joined}
use Rattle.blockparts.specs.Parts.{with_check}
use Rattle.blockwriter.specs.Writing.{words_of, block_of}

-- Two parts of bytes are bytes.
append_bytes : (a b : List ℕ) → Bytes a → Bytes b → Bytes (a ++ b)
append_bytes a b f g i =
    elim (dec_lt i (length a)) [
      | yes h ↦ rw (get_or-append a b 0 i h) (f i)
      | no h ↦ let e : i ≡ length a + (i - length a) = omega arith in
          rw (e, get_or-append-add a b (i - length a) 0) (g (i - length a))
    ]

-- So are as many as are joined.
pub joined_bytes : (f : ℕ → List ℕ) (n : ℕ) → ((k : ℕ) → Bytes (f k)) → Bytes (joined f n)
unfolding joined
joined_bytes f zero h = λ i. omega arith
joined_bytes f (suc n) h = append_bytes (joined f n) (f n) (joined_bytes f n h) (h n)

-- The four of a word are bytes.
four_bytes : (w : ℕ) → Bytes (bytes4 w)
four_bytes w zero = omega arith
four_bytes w (suc zero) = omega arith
four_bytes w (suc (suc zero)) = omega arith
four_bytes w (suc (suc (suc zero))) = omega arith
four_bytes w (suc (suc (suc (suc i)))) = omega arith

-- So are those of words.
words_bytes : (f : ℕ → ℕ) (n : ℕ) → Bytes (bytes_of f n)
unfolding bytes_of
words_bytes f zero = λ i. omega arith
words_bytes f (suc n) = append_bytes (bytes_of f n) (bytes4 (f n)) (words_bytes f n) (four_bytes (f n))

-- A guest's block is bytes.
pub block_in_bytes : (g : Guest) (place : ℕ) → Bytes (block_of g place)
unfolding block_of
block_in_bytes g place = words_bytes (nth (with_check (words_of g place))) block_words
