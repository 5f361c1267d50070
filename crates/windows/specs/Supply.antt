-- The guest part of the invariant: how much of its capacity a fitted guest has used at each position of its period,
-- whatever is above it.
-- Inner: no promise of an entry names this.
-- Here y counts the ticks since the guests above and g itself last had nothing to claim, and m k how often guest k was
-- filled since.
use Rattle.std.specs.Prelude.{ℕ, zero, suc, ◌+◌, ◌-◌, ◌*◌, ◌≤◌, ◌<◌}
use Rattle.lists.specs.Sum.{sum_to}
use Rattle.windows.specs.Equation.{above}

-- what a guest of capacity c has used, while it still holds h; 0 once it holds nothing
unfoldable pub spent : ℕ → ℕ → ℕ
spent zero c = 0
spent (suc h) c = c - suc h

-- The invariant, for guest g with response x.
pub record Supply (cap per : ℕ → ℕ) (g x : ℕ) (held pos : ℕ → ℕ) : Type 0 where
  pub y : ℕ
  pub m : ℕ → ℕ
  pub counts : (k : ℕ) → k < g → m k * per k + pos k ≤ y + per k
  pub shared : y + sum_to held g ≤ sum_to (λ k. m k * cap k) g + spent (held g) (cap g)
  pub upto : (v : ℕ) → v ≤ y → v ≤ above cap per g v + spent (held g) (cap g)
  pub within : y < x
  pub owed : 0 < held g → pos g ≤ y
  pub most : held g ≤ cap g
  pub pace : cap g ≤ held g + pos g
