-- What the promise permits is one outcome. Assumes nothing.
use mathlib.Core.Path.{◌≡◌}
use mathlib.Core.List.{List}
use Prim.Native.Nat.{ℕ}
use Rattle.std.specs.Prelude.{Result}
use Rattle.plan.specs.declared.Refusal.{Refusal}
use Rattle.conversion.specs.Promises.{Converts}
use Rattle.plan.proofs.Promises.{one_outcome}

-- `convert` has one refusal and leaves one content of the lent output.
pub converts_once :
    (plan before : List ℕ) (r q : Result Unit Refusal) (x y : List ℕ)
    → Converts plan before r x
    → Converts plan before q y
    → (r ≡ q) × (x ≡ y)
converts_once plan before r q x y a b = (one_outcome a.0 b.0, one_outcome a.1 b.1)
