-- What each promise permits is one outcome. Assumes nothing.
use mathlib.Core.Path.{◌≡◌}
use mathlib.Core.List.{List}
use Prim.Native.Nat.{ℕ}
use Rattle.std.specs.Prelude.{Result}
use Rattle.plan.specs.declared.Refusal.{Refusal}
use Rattle.logblock.specs.declared.Entries.{Entries}
use Rattle.logblock.specs.Promises.{WritesLog}
use Rattle.plan.proofs.Promises.{one_outcome}

-- `write_log` has one refusal and leaves one content of the lent bytes.
pub writes_log_once :
    (es : Entries) (before : List ℕ) (r s : Result (Unit {0}) Refusal) (x y : List ℕ)
    → WritesLog es before r x
    → WritesLog es before s y
    → (r ≡ s) × (x ≡ y)
writes_log_once es before r s x y a b = (one_outcome a.0 b.0, one_outcome a.1 b.1)
