-- What the promise permits is one outcome. Assumes nothing.
use mathlib.Core.Path.{◌≡◌}
use mathlib.Core.List.{List}
use Prim.Native.Nat.{ℕ}
use Rattle.statement.specs.declared.Statement.{Statement}
use Rattle.statement.specs.declared.Stated.{Stated}
use Rattle.statement.specs.Promises.{Extends}
use Rattle.plan.proofs.Promises.{one_outcome}

-- `extend`: the refusal, the next statement, how many blocks were passed over, and the first of them.
pub extends_once :
    (s : Statement) (plan log : List ℕ) (r t : Stated) → Extends s plan log r → Extends s plan log t → r ≡ t
extends_once s plan log r t a b = one_outcome a b
