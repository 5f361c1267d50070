-- What the crate's entry promises.
use Rattle.std.specs.Prelude.{◌≡◌, List, ℕ, length, Result}
use Rattle.plan.specs.declared.Refusal.{Refusal}
use Rattle.plan.specs.First.{unless_refused}
use Rattle.conversion.specs.Outcome.{convert_refusal, converted_out}

-- `convert` gives the refusal, where there is one, and settles every byte of the lent output.
abbrev pub Converts : (plan before : List ℕ) → Result Unit Refusal → (after : List ℕ) → Type 0
Converts plan before r after =
    (r ≡ unless_refused (convert_refusal plan (length before)) tt) × (after ≡ converted_out plan before)
