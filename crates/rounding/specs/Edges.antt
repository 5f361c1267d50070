-- Quotients kept beside a window that grows: each has an edge, the last number up to which it stands. Inner: no promise
-- of an entry names this.
use Rattle.std.specs.Prelude.{◌≡◌, ℕ, ◌+◌, ◌*◌, ◌≤◌, ◌<◌}
use Rattle.lists.specs.Sum.{sum_to}
use Rattle.lists.specs.Places.{nth}
use Rattle.rounding.specs.declared.Edges.{Edges}
use Rattle.rounding.specs.Up.{up}
use Rattle.rounding.specs.Asked.{asked}
use Rattle.rounding.specs.Short.{bound, long}

-- The edges of the first n at a window of v ticks are those of their quotients there, and the sum is what they ask of
-- it. The places from n on have none yet.
pub record Kept (cost every late : ℕ → ℕ) (e : Edges) (n v : ℕ) : Type 0 where
  pub edges : (k : ℕ) → k < n → nth e.at k ≡ up (v + late k) (every k) * every k
  pub small : (k : ℕ) → k < n → up (v + late k) (every k) * cost k ≤ long * bound
  pub is : e.sum ≡ asked cost every late n v
  pub rest : (k : ℕ) → n ≤ k → nth e.at k ≡ 0

-- The edges of the first n are those of a count of each that a window of v ticks does not fall below, as the edges at a
-- shorter window are, and the sum is what these counts ask.
pub record Behind (cost every late : ℕ → ℕ) (e : Edges) (n v : ℕ) : Type 0 where
  pub count : ℕ → ℕ
  pub edges : (k : ℕ) → k < n → nth e.at k ≡ count k * every k
  pub small : (k : ℕ) → k < n → count k * cost k ≤ long * bound
  pub behind : (k : ℕ) → k < n → count k ≤ up (v + late k) (every k)
  pub is : e.sum ≡ sum_to (λ k. count k * cost k) n
  pub rest : (k : ℕ) → n ≤ k → nth e.at k ≡ 0
