-- What the crate's entry promises.
use Rattle.std.specs.Prelude.{◌≡◌, List, ℕ, length, Result}
use Rattle.plan.specs.declared.Refusal.{Refusal}
use Rattle.plan.specs.First.{unless_refused}
use Rattle.logblock.specs.declared.Entries.{Entries}
use Rattle.logblock.specs.Writing.{log_refusal, log_written}

-- `write_log` gives the refusal, or number 0, and settles every byte of the lent buffer.
abbrev pub WritesLog : Entries → (before : List ℕ) → Result (Unit {0}) Refusal → (after : List ℕ) → Type 0
WritesLog es before r after = (r ≡ unless_refused (log_refusal es (length before)) tt) × (after ≡ log_written es before)
