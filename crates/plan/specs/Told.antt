-- What an answer of several cases tells, in document 01's terms: the refusal's number and place, and the values in
-- ticks.
use Rattle.std.specs.Prelude.{List, [], ◌∷◌, ℕ, Option, Some, None}
use Rattle.plan.specs.declared.Refusal.{Refusal}
use Rattle.plan.specs.First.{refused, fine}

-- a refusal, whose number is 0 where there is none, and the values
pub record Told : Type 0 where
  pub refusal : Refusal
  pub values : List ℕ

-- a refusal has no values
abbrev pub refusing : (number place : ℕ) → Told
refusing number place = record { refusal = refused number place; values = [] }

-- a verdict has no number
abbrev pub saying : (values : List ℕ) → Told
saying values = record { refusal = fine; values = values }

-- a number that was found is the one value
abbrev pub value_of : Option ℕ → List ℕ
value_of (Some x) = x ∷ []
value_of None = []
