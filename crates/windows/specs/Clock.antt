-- The part of the invariant on waits and ages. Inner: no promise of an entry names this.
use Rattle.std.specs.Prelude.{ℕ, ◌+◌, ◌≤◌, ◌<◌}
use Rattle.windows.specs.TaskTick.{Tasks}

-- Every wait up to task i is at most a period, and an unfinished job's age and wait make up its period.
pub record Clock (i : ℕ) (every : ℕ → ℕ) (v : Tasks) : Type 0 where
  pub waits : (j : ℕ) → j ≤ i → v.wait j ≤ every j
  pub since : 0 < v.rest i → every i ≤ v.age i + v.wait i
