-- What the promise permits is one outcome. Assumes nothing.
use Rattle.std.specs.Prelude.{Result}
use mathlib.Core.Path.{◌≡◌}
use Prim.Native.Nat.{ℕ}
use Rattle.plan.specs.declared.Plan.{Plan}
use Rattle.plan.specs.declared.Refusal.{Refusal}
use Rattle.capacity.specs.Promises.{Sized}
use Rattle.plan.proofs.Promises.{one_outcome}

-- smallest_capacity has one outcome
pub sized_once : (p : Plan) (id : ℕ) (r s : Result ℕ Refusal) → Sized p id r → Sized p id s → r ≡ s
sized_once p id r s = one_outcome
