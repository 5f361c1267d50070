-- A tick's one unit goes to the first in order that has something: guests for the core, and tasks inside a guest.
-- Inner: no promise of an entry names this.
use Rattle.std.specs.Prelude.{◌≡◌, ℕ, ◌+◌, ◌≤◌, ◌<◌}

-- Place t is served among those up to i (t above i: none of them): those before it had nothing, it loses one, all
-- others stand.
pub record ServedFirst (i t : ℕ) (had left : ℕ → ℕ) : Type 0 where
  pub before : (j : ℕ) → j < t → j ≤ i → had j ≡ 0
  pub took : t ≤ i → left t + 1 ≡ had t
  pub same : (j : ℕ) → j ≤ i → (j ≡ t → ⊥) → left j ≡ had j
