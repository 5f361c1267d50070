-- What the search for a task's window gives, and hands on to the search for the task below. Inner: no promise of an
-- entry names this.
use Rattle.std.specs.Prelude.{◌≡◌, true, false, ℕ, ◌≤◌, ◌<◌, Option, Some, None, is_some}
use Rattle.rounding.specs.declared.Edges.{Edges}
use Rattle.rounding.specs.Edges.{Kept, Behind}
use Rattle.equation.specs.Solve.{solve}
use Rattle.equation.specs.Standing.{Stands}
use Rattle.equation.specs.System.{System, right, task_under}

-- the ticks that were found, or 0 for none
abbrev pub ticks_of : Option ℕ → ℕ
ticks_of None = 0
ticks_of (Some w) = w

-- The search for task i may begin at w: it stands there, and the edges of the tasks above are those of a window that is
-- no longer.
pub record Begins (S : System) (i w : ℕ) (e : Edges) : Type 0 where
  pub stands : Stands S i w
  pub behind : Behind S.run S.every S.gap e i w

-- The search found the least window of at most t ticks, if there is one; the edges are those of the window.
pub record FindsWindow (S : System) (i t : ℕ) (e : Edges) (r : Option ℕ) : Type 0 where
  pub is : r ≡ solve (right S i) t
  pub stands : (w : ℕ) → r ≡ Some w → Stands S i w
  pub kept : (w : ℕ) → r ≡ Some w → Kept S.run S.every S.gap e i w

-- The tasks from `from` up to r are met, and r is the first that is not, or n.
pub record MetTo (S : System) (deadline : ℕ → ℕ) (from n r : ℕ) : Type 0 where
  pub low : from ≤ r
  pub high : r ≤ n
  pub met : (j : ℕ) → from ≤ j → j < r → is_some (task_under S j (deadline j)) ≡ true
  pub unmet : r < n → is_some (task_under S r (deadline r)) ≡ false
