-- The bounded search upward: the first number that passes a test.
use Rattle.std.specs.Prelude.{Bool, true, false, ℕ, zero, suc, Option, Some, None}
use Rattle.lists.specs.Choice.{pick}

-- the first of the d numbers from x on that passes p
unfoldable pub least : (ℕ → Bool) → ℕ → ℕ → Option ℕ
least p zero x = None
least p (suc d) x = elim (p x) [ true ↦ Some x | false ↦ least p d (suc x) ]

-- the first of the d numbers from x on that passes p, or the number past them
unfoldable pub first_from : (ℕ → Bool) → ℕ → ℕ → ℕ
first_from p zero x = x
first_from p (suc d) x = pick (p x) x (first_from p d (suc x))
