-- The flat arrays of 128: 16 places for each guest.
use Rattle.std.specs.Prelude.{ℕ, ◌+◌, ◌*◌, ◌<◌, ◌≤◌, List}
use Rattle.lists.specs.Places.{nth}

-- where task t of guest k stands
abbrev pub place_at : ℕ → ℕ → ℕ
place_at k t = k * 16 + t

-- n guests of at most 16 tasks each
pub record Small (n : ℕ) (tasks : List ℕ) : Type 0 where
  pub guests : n ≤ 8
  pub each : (k : ℕ) → k < n → nth tasks k ≤ 16
