-- The least solution of an equation x = f x.
use Rattle.std.specs.Prelude.{ℕ, eqb, Option}
use Rattle.lists.specs.Search.{least}

-- the least x from 1 to t with x = f x
unfoldable pub solve : (ℕ → ℕ) → ℕ → Option ℕ
solve f t = least (λ x. eqb x (f x)) t 1
