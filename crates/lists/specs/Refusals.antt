-- Numbered refusals: tests in a fixed order, the first that fails gives its number.
use Rattle.std.specs.Prelude.{Bool, true, false, List, [], ◌∷◌, ℕ, zero, suc, Result, Ok, Err}

-- a test, and the number that a failure of it is refused by
pub record Test : Type 0 where
  pub passes : Bool
  pub number : ℕ

-- the number where the test fails, and what comes after where it passes
unfoldable pub unless : Bool → ℕ → ℕ → ℕ
unless true number after = after
unless false number after = number

-- the number of the first test that fails, or 0 where all pass
unfoldable pub refusal : List Test → ℕ
refusal [] = 0
refusal (t ∷ ts) = unless t.passes t.number (refusal ts)

-- one line of an order of refusals, written as a test and its number
infixl 70 ◌or_refuse◌
abbrev pub ◌or_refuse◌ : Bool → ℕ → Test
passes or_refuse number = record { passes = passes; number = number }

-- the number that refuses, or the answer where it is 0
abbrev pub unless_number : {A : Type 0} → ℕ → A → Result A ℕ
unless_number zero answer = Ok answer
unless_number (suc n) answer = Err (suc n)
