-- What the crate's entries promise: the whole outcome, on refusals too. `write_log` has its promise in `logblock`.
use Rattle.std.specs.Prelude.{◌≡◌, List, ℕ}
use Rattle.statement.specs.declared.Statement.{Statement}
use Rattle.statement.specs.declared.Stated.{Stated}
use Rattle.statement.specs.Call.{stated}

-- `extend` has the one outcome that its definition gives.
abbrev pub Extends : Statement → (plan log : List ℕ) → Stated → Type 0
Extends s plan log r = r ≡ stated s plan log
