-- What an order of places is, and when it goes by keys.
use Rattle.std.specs.Prelude.{◌≡◌, List, ℕ, ◌≤◌, ◌<◌, length}
use Rattle.lists.specs.Places.{nth}

-- An order of n places: n entries, each a place from 0 to n - 1, none twice.
pub record IsOrder (n : ℕ) (order : List ℕ) : Type 0 where
  pub long : length order ≡ n
  pub named : (i : ℕ) → i < n → nth order i < n
  pub once : (i j : ℕ) → i < n → j < n → nth order i ≡ nth order j → i ≡ j

-- It goes by keys: none stands behind one with a larger key, and equals stand as they stood.
pub record GoesBy (key : ℕ → ℕ) (n : ℕ) (order : List ℕ) : Type 0 where
  pub rises : (i j : ℕ) → i < j → j < n → key (nth order i) ≤ key (nth order j)
  pub stable : (i j : ℕ) → i < j → j < n → key (nth order i) ≡ key (nth order j) → nth order i < nth order j
