-- What the crate's entry promises.
use Rattle.std.specs.Prelude.{◌≡◌, List, ℕ, length, Result}
use Rattle.plan.specs.declared.Guest.{Guest}
use Rattle.plan.specs.declared.Refusal.{Refusal}
use Rattle.plan.specs.First.{unless_refused}
use Rattle.blockwriter.specs.Writing.{write_refusal, written}

-- `write` gives the refusal, where there is one, and settles every byte of the lent buffer.
abbrev pub Writes : Guest → (place : ℕ) → (before : List ℕ) → Result Unit Refusal → (after : List ℕ) → Type 0
Writes g place before r after =
    (r ≡ unless_refused (write_refusal g place (length before)) tt) × (after ≡ written g place before)
