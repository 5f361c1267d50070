-- A column put into a row. Inner: no promise of an entry names this.
use Rattle.std.specs.Prelude.{◌≡◌, List, ℕ, ◌+◌, ◌<◌, length}
use Rattle.lists.specs.Places.{nth}

-- The words of a column stand in a row from one of its words on, and the words before are as they were.
pub record ColumnPut (old : List ℕ) (first : ℕ) (x : List ℕ) (new : List ℕ) : Type 0 where
  pub long : length new ≡ 54
  pub before : (i : ℕ) → i < first → nth new i ≡ nth old i
  pub here : (i : ℕ) → i < 16 → nth new (first + i) ≡ nth x i
