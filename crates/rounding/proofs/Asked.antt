-- Laws of what is asked of a window. Assumes nothing.
use mathlib.Core.Path.{◌≡◌, refl}
use Prim.Native.Nat.{ℕ, ◌+◌, ◌*◌, ◌≤◌, ◌<◌}
use native.Mathlib.Nat.{mul-le-mul_right}
use native.Mathlib.Omega.{arith}
use Rattle.lists.specs.Sum.{sum_to}
use Rattle.rounding.specs.Up.{up}
use Rattle.rounding.specs.Asked.{asked}
use Rattle.lists.proofs.Sum.{sum_none, sum_next, sum_le, sum_same}
use Rattle.rounding.proofs.Up.{up_mono, le_up}

-- where nobody asks, nothing is asked
pub asked_none : (cost every late : ℕ → ℕ) (v : ℕ) → asked cost every late 0 v ≡ 0
unfolding asked
asked_none cost every late v = sum_none _

-- a loop's turn: one more asks
pub asked_next : (cost every late : ℕ → ℕ) (n v : ℕ)
    → asked cost every late (n + 1) v ≡ asked cost every late n v + up (v + late n) (every n) * cost n
unfolding asked
asked_next cost every late n v = sum_next _ n

-- a longer window is asked for no less, nor is one where each can be put off no less
pub asked_le : (cost every late late' : ℕ → ℕ) (n v w : ℕ) → ((k : ℕ) → k < n → v + late k ≤ w + late' k)
    → asked cost every late n v ≤ asked cost every late' n w
unfolding asked
asked_le cost every late late' n v w h = sum_le _ _ n (λ k l. mul-le-mul_right (cost k) (up_mono (every k) (h k l)))

-- the longer of two windows is asked for no less
pub asked_mono : (cost every late : ℕ → ℕ) (n : ℕ) {v w : ℕ} → v ≤ w
    → asked cost every late n v ≤ asked cost every late n w
asked_mono cost every late n {v} {w} h = asked_le cost every late late n v w (λ k l. omega arith)

-- numbers that agree up to n ask the same
pub asked_same : (cost every late cost' every' late' : ℕ → ℕ) (n v : ℕ)
    → ((k : ℕ) → k < n → cost k ≡ cost' k) → ((k : ℕ) → k < n → every k ≡ every' k)
    → ((k : ℕ) → k < n → late k ≡ late' k)
    → asked cost every late n v ≡ asked cost' every' late' n v
unfolding asked
asked_same cost every late cost' every' late' n v c e l = sum_same _ _ n (λ k h. rw (c k h, e k h, l k h) refl)

-- counts whose last began before the window's end ask no more
pub asked_counts :
    (cost every late m : ℕ → ℕ) (n v : ℕ)
    → ((k : ℕ) → k < n → 0 < every k)
    → ((k : ℕ) → k < n → m k * every k < v + late k + every k)
    → sum_to (λ k. m k * cost k) n ≤ asked cost every late n v
unfolding asked
asked_counts cost every late m n v pos h =
    sum_le _ _ n (λ k l. mul-le-mul_right (cost k) (le_up (m k) (v + late k) (every k) (pos k l) (h k l)))
