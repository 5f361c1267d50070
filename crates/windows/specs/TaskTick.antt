-- One tick and one taken release as the tasks of a guest see them, up to task i.
-- Inner: no promise of an entry names this.
use Rattle.std.specs.Prelude.{◌≡◌, ℕ, suc, ◌+◌, ◌-◌, ◌≤◌, ◌<◌, min}
use Rattle.lists.specs.Sum.{sum_to}

-- an age stops at the longest period
abbrev pub oldest : ℕ
oldest = 1000000

-- What there is of a guest's tasks: run left, wait and age of each.
pub record Tasks : Type 0 where
  pub rest : ℕ → ℕ
  pub wait : ℕ → ℕ
  pub age : ℕ → ℕ

-- The guest has a of the tick, 1 or 0: the first task with run left loses it; waits fall and ages rise.
pub record TaskTick (i a : ℕ) (v v' : Tasks) : Type 0 where
  pub worked : 0 < sum_to v.rest (suc i) → sum_to v'.rest (suc i) + a ≡ sum_to v.rest (suc i)
  pub last : 0 < sum_to v'.rest (suc i) → v'.rest i ≡ 0 → v.rest i ≡ 0
  pub less : (j : ℕ) → j ≤ i → v'.rest j ≤ v.rest j
  pub waited : (j : ℕ) → j ≤ i → v'.wait j ≡ v.wait j - 1
  pub older : 0 < v.rest i → v'.age i ≡ min (v.age i + 1) oldest

-- Task j is released: it waited for nothing and had nothing left.
pub record Taken (run every : ℕ → ℕ) (j : ℕ) (v v' : Tasks) : Type 0 where
  pub free : v.rest j ≡ 0
  pub due : v.wait j ≡ 0
  pub filled : v'.rest j ≡ run j
  pub waits : v'.wait j ≡ every j
  pub young : v'.age j ≡ 0

-- Task m is as it was.
pub record Same (m : ℕ) (v v' : Tasks) : Type 0 where
  pub left : v'.rest m ≡ v.rest m
  pub due : v'.wait m ≡ v.wait m
  pub old : v'.age m ≡ v.age m
