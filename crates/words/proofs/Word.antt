-- Laws of words in bytes. Assumes nothing.
use Rattle.std.proofs.Common.{ℕ, ◌+◌, ◌*◌, ◌<◌, List, arith}
use Rattle.words.specs.Bytes.{Bytes}
use Rattle.words.specs.Word.{word_wrap, word}

-- A word of bytes fits 32 bits.
pub word_fits : (b : List ℕ) (k : ℕ) → Bytes b → word b k < word_wrap
unfolding word
word_fits b k h = omega (arith, h (4 * k), h (4 * k + 1), h (4 * k + 2), h (4 * k + 3))
