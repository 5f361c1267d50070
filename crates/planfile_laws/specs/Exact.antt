-- The first refusal of several places.
use Rattle.std.specs.Prelude.{◌≡◌, ℕ, ◌+◌, ◌≤◌, ◌<◌}

-- Number n at place z is the first refusal of the m places from k on.
pub record FirstAt (f : ℕ → ℕ) (m k n z : ℕ) : Type 0 where
  pub low : k ≤ z
  pub high : z < k + m
  pub number : f z ≡ n
  pub before : (j : ℕ) → k ≤ j → j < z → f j ≡ 0
