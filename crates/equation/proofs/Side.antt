-- Laws of the right side of a guest's equation, C + above x. Assumes nothing.
use mathlib.Core.Path.{◌≡◌}
use Prim.Native.Nat.{ℕ, ◌≤◌}
use native.Mathlib.Omega.{arith}
use Rattle.equation.specs.Guest.{guest_side}
use Rattle.equation.specs.Standing.{Rising}
use Rattle.equation.proofs.Rise.{Grows, rise_to}

-- a part that is enough for more is enough
pub side_less : (above : ℕ → ℕ) (z : ℕ) {c d : ℕ} → c ≤ d → guest_side above d z ≤ z → guest_side above c z ≤ z
unfolding guest_side
side_less above z h e = omega arith

-- what less climbs to, more does not pass
pub side_more : (above : ℕ → ℕ) (z : ℕ) {c d : ℕ} → c ≤ d → Rising (guest_side above c) z → Rising (guest_side above d) z
unfolding guest_side
side_more above z h r = record { rises = omega (arith, r.rises); under = λ y e. r.under y (omega arith) }

-- a capacity climbs from itself
pub side_start : (above : ℕ → ℕ) (c : ℕ) → Rising (guest_side above c) c
unfolding guest_side
side_start above c = record { rises = omega arith; under = λ z h. omega arith }

-- below a part that is enough there is one that is just enough
pub side_climbs : (above : ℕ → ℕ) (c z : ℕ) → Grows above → guest_side above c z ≤ z
    → (y : ℕ) × (c ≤ y) × (y ≤ z) × (y ≡ guest_side above c y)
unfolding guest_side
side_climbs above c z g h =
    let y = rise_to (guest_side above c) (λ a b k. omega (arith, g a b k)) z h c (side_start above c) in
    (y.0, y.1, y.2, y.3)
