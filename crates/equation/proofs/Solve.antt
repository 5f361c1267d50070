-- The two ends of a loop that climbs to the least solution, and what an answer means. Assumes nothing.
use Rattle.std.specs.Prelude.{Option, Some, None}
use mathlib.Core.Path.{◌≡◌, refl}
use Prim.Native.Nat.{ℕ, ◌≤◌, ◌<◌}
use native.Mathlib.Omega.{arith}
use lib.Dec.{eqb}
use borrow.Author.Tests.{eqb-true, eqb-false, eq-eqb, ne_eqb}
use Rattle.equation.specs.Solve.{solve}
use Rattle.lists.proofs.Search.{Says, least_says, least_is}

-- no solution is below w
abbrev pub Under : (ℕ → ℕ) → ℕ → Type 0
Under f w = (z : ℕ) → 1 ≤ z → z ≡ f z → w ≤ z

-- a loop's end: a solution with none below it
pub solve_at : (f : ℕ → ℕ) (t w : ℕ) → 1 ≤ w → w ≤ t → w ≡ f w → Under f w → Some w ≡ solve f t
unfolding solve
solve_at f t w low high e u = least_is (λ x. eqb x (f x)) t 1 (Some w) record {
  low = low;
  high = omega arith;
  holds = eq-eqb w (f w) e;
  first = λ z h k. ne_eqb z (f z) (λ q. (let b : w ≤ z = u z h q in omega arith));
}

-- a loop's other end: none is below w, and w is past t
pub solve_none : (f : ℕ → ℕ) (t w : ℕ) → t < w → Under f w → None ≡ solve f t
unfolding solve
solve_none f t w past u = least_is (λ x. eqb x (f x)) t 1 None record {
  never = λ z h k. ne_eqb z (f z) (λ q. (let b : w ≤ z = u z h q in omega arith));
}

-- The number w is the least solution, and at most t.
pub record Solved (f : ℕ → ℕ) (t w : ℕ) : Type 0 where
  pub low : 1 ≤ w
  pub high : w ≤ t
  pub sol : w ≡ f w
  pub under : Under f w

-- an answer's meaning: the least solution, or that there is none from 1 to t
abbrev pub Answers : (ℕ → ℕ) → ℕ → Option ℕ → Type 0
Answers f t None = (z : ℕ) → 1 ≤ z → z ≤ t → ¬ (z ≡ f z)
Answers f t (Some w) = Solved f t w

-- what the search says of equality, said of the equation
says_answers : (f : ℕ → ℕ) (t : ℕ) (r : Option ℕ) → Says (λ x. eqb x (f x)) t 1 r → Answers f t r
says_answers f t None o = λ z h k. eqb-false z (f z) (o.never z h (omega arith))
says_answers f t (Some w) o = record {
  low = o.low;
  high = omega arith;
  sol = eqb-true w (f w) o.holds;
  under = λ z h e. (let k : ¬ (z < w) = λ k. eqb-false z (f z) (o.first z h k) e in omega arith);
}

-- the definition's answer has its meaning
pub solve_answers : (f : ℕ → ℕ) (t : ℕ) → Answers f t (solve f t)
unfolding solve
solve_answers f t = says_answers f t (solve f t) (least_says (λ x. eqb x (f x)) t 1)

-- an answer at or before a solution
pub solve_by : (f : ℕ → ℕ) (t y : ℕ) → 1 ≤ y → y ≤ t → y ≡ f y → (w : ℕ) × (solve f t ≡ Some w) × (w ≤ y)
solve_by f t y low high e = go (solve f t) refl (solve_answers f t)
  where
    go : (r : Option ℕ) → solve f t ≡ r → Answers f t r → (w : ℕ) × (solve f t ≡ Some w) × (w ≤ y)
    go None q a = absurd (a y low high e)
    go (Some w) q a = (w, q, a.under y low e)
