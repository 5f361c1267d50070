-- What each promise permits is one outcome. Assumes nothing.
use mathlib.Core.Path.{◌≡◌}
use mathlib.Core.List.{List}
use Prim.Native.Nat.{ℕ}
use Rattle.std.specs.Prelude.{Result}
use Rattle.plan.specs.declared.Guest.{Guest}
use Rattle.plan.specs.declared.Refusal.{Refusal}
use Rattle.blockwriter.specs.Promises.{Writes}
use Rattle.plan.proofs.Promises.{one_outcome}

-- `write` has one refusal and leaves one content of the lent bytes.
pub writes_once :
    (g : Guest) (p : ℕ) (before : List ℕ) (r s : Result Unit Refusal) (x y : List ℕ)
    → Writes g p before r x
    → Writes g p before s y
    → (r ≡ s) × (x ≡ y)
writes_once g p before r s x y a b = (one_outcome a.0 b.0, one_outcome a.1 b.1)
