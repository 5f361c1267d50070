-- The quotient rounded up.
use Rattle.std.specs.Prelude.{ℕ, zero, suc, ◌*◌, leb}
use Rattle.lists.specs.Search.{first_from}

-- a / b rounded up: the least whole number q that is not below it, that is, with a at most q times b; 0 for a divisor 0
unfoldable pub up : ℕ → ℕ → ℕ
up a zero = 0
up a (suc b) = first_from (λ q. leb a (q * suc b)) a 0
