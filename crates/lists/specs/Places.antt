-- The places of a list of numbers: read, and changed place by place.
use Rattle.std.specs.Prelude.{List, ℕ, zero, suc, get_or, set}

-- the number at place k, or 0 past the end
abbrev pub nth : List ℕ → ℕ → ℕ
nth l k = get_or l k 0

-- l with its first n places changed: place k holds f k of what it held
unfoldable pub up_to : (ℕ → ℕ → ℕ) → ℕ → List ℕ → List ℕ
up_to f zero l = l
up_to f (suc n) l = set (up_to f n l) n (f n (get_or l n 0))
