-- Bytes, and those of 32-bit words.
use Rattle.std.specs.Prelude.{ℕ, zero, suc, ◌+◌, ◌*◌, ◌/◌, ◌%◌, ◌<◌, List, [], ◌∷◌, ◌++◌, slice_set}
use Rattle.lists.specs.Places.{nth}

-- Each number of a list is below a bound.
abbrev pub Below : ℕ → List ℕ → Type 0
Below bound l = (i : ℕ) → nth l i < bound

-- Each is a byte.
abbrev pub Bytes : List ℕ → Type 0
Bytes = Below 256

-- The four bytes of the word w, least first.
abbrev pub bytes4 : ℕ → List ℕ
bytes4 w = w % 256 ∷ w / 256 % 256 ∷ w / 65536 % 256 ∷ w / 16777216 % 256 ∷ []

-- The bytes b with those of the word w from i on.
abbrev pub with_u32 : List ℕ → ℕ → ℕ → List ℕ
with_u32 b i w =
    slice_set (slice_set (slice_set (slice_set b i (w % 256)) (i + 1) (w / 256 % 256)) (i + 2) (w / 65536 % 256)) (i + 3) (w / 16777216 % 256)

-- The bytes b with those of the word w as word k.
abbrev pub with_word : List ℕ → ℕ → ℕ → List ℕ
with_word b k w = with_u32 b (4 * k) w

-- The bytes of the words f 0, f 1, … and f (n - 1).
unfoldable pub bytes_of : (ℕ → ℕ) → ℕ → List ℕ
bytes_of f zero = []
bytes_of f (suc n) = bytes_of f n ++ bytes4 (f n)
