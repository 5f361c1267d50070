-- Parts joined, as blocks are to a file.
use Rattle.std.specs.Prelude.{List, [], ◌++◌, ℕ, zero, suc}

-- The parts f 0, f 1, … and f (n - 1) one after the other.
unfoldable pub joined : (ℕ → List ℕ) → ℕ → List ℕ
joined f zero = []
joined f (suc n) = joined f n ++ f n
