-- What each promise permits is one outcome. Assumes nothing.
use mathlib.Core.Path.{◌≡◌}
use mathlib.Core.List.{List}
use Prim.Native.Nat.{ℕ}
use Rattle.std.specs.Prelude.{Result}
use Rattle.plan.specs.declared.Plan.{Plan}
use Rattle.plan.specs.declared.Refusal.{Refusal}
use Rattle.planfile.specs.Promises.{Reads, Finds, FindsPlace}
use Rattle.plan.proofs.Promises.{one_outcome}

-- `read` has one outcome.
pub reads_once : (s : List ℕ) (r q : Result Plan Refusal) → Reads s r → Reads s q → r ≡ q
reads_once s r q = one_outcome

-- `find` has one outcome.
pub finds_once : (s : List ℕ) (id : ℕ) (r q : List ℕ) → Finds s id r → Finds s id q → r ≡ q
finds_once s id r q = one_outcome

-- `find_place` has one outcome.
pub finds_place_once : (s : List ℕ) (id : ℕ) (r q : Result ℕ Refusal) → FindsPlace s id r → FindsPlace s id q → r ≡ q
finds_place_once s id r q = one_outcome
