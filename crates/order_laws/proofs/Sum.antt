-- A sum over places none of which is twice is at most the sum over all places. Assumes nothing.
use mathlib.Core.Path.{◌≡◌, refl}
use Prim.Native.Nat.{ℕ, zero, suc, ◌+◌, ◌≤◌, ◌<◌}
use native.Mathlib.Omega.{arith}
use lib.Dec.{eqb}
use borrow.Author.Tests.{eq-eqb, ne_eqb}
use Rattle.lists.specs.Choice.{pick}
use Rattle.lists.specs.Sum.{sum_to}
use Rattle.lists.proofs.Sum.{sum_none, sum_last, sum_same, sum_bump}

-- The function f with 0 at place x.
abbrev pub without : (f : ℕ → ℕ) → (x y : ℕ) → ℕ
without f x y = pick (eqb y x) 0 (f y)

without_there : (f : ℕ → ℕ) (x : ℕ) → without f x x ≡ 0
without_there f x = rw (eq-eqb x x refl) refl

pub without_other : (f : ℕ → ℕ) (x y : ℕ) → (y ≡ x → ⊥) → without f x y ≡ f y
without_other f x y n = rw (ne_eqb y x n) refl

-- It is less by what stood there.
pub sum_without : (f : ℕ → ℕ) (x m : ℕ) → x < m → sum_to (without f x) m + f x ≡ sum_to f m
sum_without f x m h =
    sum_bump (without f x) f (f x) m x h (omega (arith, without_there f x)) (λ j l n. without_other f x j n)

-- The places are taken away from the sum over all, one by one.
pub sum_once : (f at : ℕ → ℕ) (i m : ℕ) → ((j : ℕ) → j < i → at j < m)
    → ((j k : ℕ) → j < i → k < i → at j ≡ at k → j ≡ k)
    → sum_to (λ j. f (at j)) i ≤ sum_to f m
sum_once f at zero m low once = omega (arith, sum_none (λ j. f (at j)))
sum_once f at (suc i) m low once =
    let g = without f (at i) in
    let less : sum_to (λ j. g (at j)) i ≤ sum_to g m =
    sum_once g at i m (λ j l. low j (omega arith)) (λ j k l b. once j k (omega arith) (omega arith)) in
    let same : sum_to (λ j. g (at j)) i ≡ sum_to (λ j. f (at j)) i =
    sum_same _ _ i (λ j l. without_other f (at i) (at j) (λ e. (
    let q = once j i (omega arith) (omega arith) e in omega arith))) in
    omega (arith, sum_without f (at i) m (low i (omega arith)), sum_last (λ j. f (at j)) i)
