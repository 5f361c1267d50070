-- Little-endian 32-bit words in a list of bytes.
use Rattle.std.specs.Prelude.{ℕ, ◌+◌, ◌*◌, ◌^◌, List}
use Rattle.lists.specs.Places.{nth}

-- A word holds the numbers below 4,294,967,296.
abbrev pub word_wrap : ℕ
word_wrap = 2 ^ 32

-- The number that the two bytes from i on say, least first.
abbrev pub u16_at : List ℕ → ℕ → ℕ
u16_at b i = nth b i + 256 * nth b (i + 1)

-- The number that the four bytes from i on say, least first.
abbrev pub u32_at : List ℕ → ℕ → ℕ
u32_at b i = nth b i + 256 * nth b (i + 1) + 65536 * nth b (i + 2) + 16777216 * nth b (i + 3)

-- Word k of the bytes b, counted from 0.
unfoldable pub word : List ℕ → ℕ → ℕ
word b k = u32_at b (4 * k)
