-- Laws of `sum_to`. Assumes nothing.
use mathlib.Core.Path.{◌≡◌, refl, ap}
use mathlib.Core.Logic.{⊎_elim}
use Prim.Native.Nat.{ℕ, zero, suc, ◌+◌, ◌≤◌, ◌<◌}
use native.Mathlib.Nat.{eq-or-lt_of_le}
use native.Mathlib.Numerals.{add-one}
use native.Mathlib.Omega.{arith}
use Rattle.lists.specs.Sum.{sum_to}

-- the sum over none is 0
pub sum_none : (f : ℕ → ℕ) → sum_to f 0 ≡ 0
unfolding sum_to
sum_none f = refl

-- the sum over one more is the sum and the last
pub sum_last : (f : ℕ → ℕ) (n : ℕ) → sum_to f (suc n) ≡ sum_to f n + f n
unfolding sum_to
sum_last f n = refl

-- a loop's turn: one more is added
pub sum_next : (f : ℕ → ℕ) (n : ℕ) → sum_to f (n + 1) ≡ sum_to f n + f n
unfolding sum_to
sum_next f n = rw add-one refl

-- where each number is at most another, the sum is at most the other sum
pub sum_le : (f h : ℕ → ℕ) (n : ℕ) → ((k : ℕ) → k < n → f k ≤ h k) → sum_to f n ≤ sum_to h n
unfolding sum_to
sum_le f h zero p = omega arith
sum_le f h (suc n) p = omega (arith, sum_le f h n (λ k q. p k (omega arith)), p n (omega arith))

-- where each number is the same, the sum is the same
pub sum_same : (f h : ℕ → ℕ) (n : ℕ) → ((k : ℕ) → k < n → f k ≡ h k) → sum_to f n ≡ sum_to h n
unfolding sum_to
sum_same f h zero p = refl
sum_same f h (suc n) p = omega (arith, sum_same f h n (λ k q. p k (omega arith)), p n (omega arith))

-- two sums add up to the sum of both
pub sum_add : (f h : ℕ → ℕ) (n : ℕ) → sum_to (λ k. f k + h k) n ≡ sum_to f n + sum_to h n
unfolding sum_to
sum_add f h zero = refl
sum_add f h (suc n) = omega (arith, sum_add f h n)

-- one place has changed, all others are the same
pub sum_change : (f h : ℕ → ℕ) (n k : ℕ) → k < n → ((j : ℕ) → j < n → (j ≡ k → ⊥) → f j ≡ h j)
    → sum_to f n + h k ≡ sum_to h n + f k
unfolding sum_to
sum_change f h zero k l p = absurd (omega arith)
sum_change f h (suc n) k l p =
    ⊎_elim (λ (q : k ≡ n). rw q (omega (arith, sum_same f h n (λ j b. p j (omega arith) (λ z. omega arith)))))
    (λ (q : k < n). omega (
      arith,
      sum_change f h n k q (λ j b. p j (omega arith)),
      p n (omega arith) (λ z. omega arith),
    ))
    (eq-or-lt_of_le {n = k} {m = n} (omega arith))

-- the sum is higher by c
pub sum_bump :
    (f h : ℕ → ℕ) (c n k : ℕ)
    → k < n
    → f k + c ≡ h k
    → ((j : ℕ) → j < n → (j ≡ k → ⊥) → f j ≡ h j)
    → sum_to f n + c ≡ sum_to h n
sum_bump f h c n k l e p = omega (arith, sum_change f h n k l p)

-- where all numbers are 0 the sum is 0
pub sum_zero : (f : ℕ → ℕ) (n : ℕ) → ((k : ℕ) → k < n → f k ≡ 0) → sum_to f n ≡ 0
unfolding sum_to
sum_zero f zero p = refl
sum_zero f (suc n) p = omega (arith, sum_zero f n (λ k q. p k (omega arith)), p n (omega arith))

-- each number is at most the sum
pub sum_at : (f : ℕ → ℕ) (n k : ℕ) → k < n → f k ≤ sum_to f n
unfolding sum_to
sum_at f zero k l = absurd (omega arith)
sum_at f (suc n) k l =
    ⊎_elim (λ (q : k ≡ n). let r : f k ≡ f n = ap f q in omega arith) (λ (q : k < n). omega (arith, sum_at f n k q))
    (eq-or-lt_of_le {n = k} {m = n} (omega arith))
