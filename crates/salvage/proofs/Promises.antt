-- What the promise permits is one outcome. Assumes nothing.
use Rattle.std.proofs.Common.{◌≡◌, ℕ, List}
use Rattle.salvage.specs.declared.Salvaged.{Salvaged}
use Rattle.salvage.specs.Promises.{Salvages}
use Rattle.plan.proofs.Promises.{one_outcome}

-- `salvage` has one answer and leaves one content of the lent output.
pub salvages_once :
    (file before : List ℕ) (r q : Salvaged) (x y : List ℕ)
    → Salvages file before r x
    → Salvages file before q y
    → (r ≡ q) × (x ≡ y)
salvages_once file before r q x y a b = (one_outcome a.0 b.0, one_outcome a.1 b.1)
