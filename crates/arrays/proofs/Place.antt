-- A row of a flat array written place by place, from the first task on. Assumes nothing.
use Rattle.std.proofs.Common.{◌≡◌, ℕ, ◌+◌, ◌<◌, List, length, set, ◌∙◌, arith, get_or-set_other, get_or-set_same}
use native.Mathlib.Decide.{ℕ_discrete}
use Rattle.lists.specs.Places.{nth}
use Rattle.arrays.specs.Place.{place_at}

-- One number more stands in the row of guest k, whose places are written up to it.
pub row_grown :
    (k : ℕ) (f : ℕ → ℕ) (l : List ℕ) (n v : ℕ)
    → place_at k n < length l
    → v ≡ f n
    → ((t : ℕ) → t < n → nth l (place_at k t) ≡ f t)
    → (t : ℕ) → t < n + 1 → nth (set l (place_at k n) v) (place_at k t) ≡ f t
row_grown k f l n v inside e H t h =
    elim (ℕ_discrete t n) [
      | yes q ↦ rw q (get_or-set_same l (place_at k n) v 0 inside ∙ e)
      | no q ↦ get_or-set_other l (place_at k n) (place_at k t) v 0 (λ z. q (omega arith)) ∙ H t (omega arith)
    ]

-- Places before the row stand.
pub row_stands : (k : ℕ) (l : List ℕ) (n v m : ℕ) → m < place_at k 0 → nth (set l (place_at k n) v) m ≡ nth l m
row_stands k l n v m h = get_or-set_other l (place_at k n) m v 0 (λ z. omega arith)
