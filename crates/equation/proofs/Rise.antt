-- The recurrence x := f x of a function that grows: its invariants, and its solution below any number that f does not
-- raise. Assumes nothing.
use mathlib.Core.Path.{◌≡◌}
use mathlib.Core.Logic.{⊎_elim}
use Prim.Native.Nat.{ℕ, zero, suc, ◌+◌, ◌≤◌}
use native.Mathlib.Nat.{eq-or-lt_of_le, le_trans}
use native.Mathlib.Omega.{arith}
use Rattle.equation.specs.Standing.{Rising}
use Rattle.equation.proofs.Solve.{Under}

-- a function that grows
abbrev pub Grows : (ℕ → ℕ) → Type 0
Grows f = (a b : ℕ) → a ≤ b → f a ≤ f b

-- a turn keeps both
pub rise_turn : (f : ℕ → ℕ) → Grows f → (x : ℕ) → Rising f x → Rising f (f x)
rise_turn f g x r = record { rises = g x (f x) r.rises; under = λ z h. le_trans (g x z (r.under z h)) h }

-- no solution is below a number that the recurrence reaches
pub rise_under : (f : ℕ → ℕ) (x : ℕ) → Rising f x → Under f x
rise_under f x r z h e = r.under z (omega arith)

-- the recurrence climbs to a solution, in at most d turns
rise : (f : ℕ → ℕ) → Grows f → (z : ℕ) → f z ≤ z → (d x : ℕ) → z ≤ x + d → Rising f x
    → (y : ℕ) × (x ≤ y) × (y ≤ z) × (y ≡ f y) × Rising f y
rise f g z p zero x k r =
    (x, omega arith, r.under z p, (let h = r.under z p in let q = g x z h in omega (arith, r.rises)), r)
rise f g z p (suc d) x k r =
    ⊎_elim (λ e. (x, omega arith, r.under z p, e, r))
    (λ l. (let y = rise f g z p d (f x) (omega arith) (rise_turn f g x r) in
    (y.0, omega (arith, y.1), y.2, y.3, y.4)))
    (eq-or-lt_of_le r.rises)

-- the recurrence climbs to a solution at or below each z that f does not raise
pub rise_to : (f : ℕ → ℕ) → Grows f → (z : ℕ) → f z ≤ z → (x : ℕ) → Rising f x
    → (y : ℕ) × (x ≤ y) × (y ≤ z) × (y ≡ f y) × Rising f y
rise_to f g z p x r = rise f g z p z x (omega arith) r
