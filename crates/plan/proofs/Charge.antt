-- Laws of the charged run. Assumes nothing.
use Prim.Native.Nat.{ℕ, ◌^◌, ◌≤◌, ◌<◌}
use native.Mathlib.Omega.{arith}
use Rattle.plan.specs.Charge.{charged_run}
use Rattle.plan.specs.Ranges.{longest}

-- the charged run is no less than the run
pub charged_least : (run charge : ℕ) → run ≤ charged_run run charge
unfolding charged_run
charged_least run charge = omega arith

-- the charged run of a run in its range and a charge of 16 bits fits 32 bits
pub charged_most : (run charge : ℕ) → run ≤ longest → charge < 2 ^ 16 → charged_run run charge < 2 ^ 32
unfolding charged_run
charged_most run charge h c = omega arith
