-- The causes of a further release's number. Assumes nothing.
use mathlib.Core.Path.{◌≡◌}
use Prim.Native.Nat.{ℕ, ◌≤◌, ◌<◌}
use Rattle.lists.specs.Exactly.{◌exactly_when◌}

-- The number n of a release m ticks after the last one taken, of a task with this period and this run left, where H
-- says that the task may start and A that it may not: 17, 9, 10 or none, each for its own cause. Inner: it serves the
-- proofs of `Again` alone.
pub record Again (H A : Type 0) (n period m left : ℕ) : Type 0 where
  pub seventeen : (n ≡ 17) exactly_when A
  pub nine : (n ≡ 9) exactly_when (H × (m < period))
  pub ten : (n ≡ 10) exactly_when (H × ((period ≤ m) × (0 < left)))
  pub none : (n ≡ 0) exactly_when (H × ((period ≤ m) × (left ≡ 0)))
