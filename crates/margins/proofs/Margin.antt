-- Laws of the margin: what it is by whether the job is late, that it falls as a job gets older, how large it and a sum
-- of margins get, and that it is stored as it is. Assumes nothing.
use mathlib.Core.Path.{◌≡◌, ap}
use mathlib.Core.Bool.{Bool, true, false, cond}
use Prim.Native.Nat.{ℕ, zero, suc, ◌+◌, ◌-◌, ◌≤◌, ◌<◌}
use native.Mathlib.Decide.{dec_le}
use native.Mathlib.Omega.{arith}
use lib.Dec.{ltb, le→leb}
use lib.IntN.{ℤ, pos, negsuc, nat_abs, ◌+ℤ◌}
use lib.Signed.{◌≤ℤ◌}
use borrow.Author.Tests.{le-ltb, lt-ltb}
use Rattle.plan.specs.Ranges.{longest}
use Rattle.margins.specs.Margin.{margin_of, widest}
use mir.Syntax.{w32}
use mir.Val.{SFits, to_z, of_z}
use mir.Facts.{to_z-of_z}

-- ---- late or not
-- The margin of a late job is negative.
margin_late : (deadline age : ℕ) → deadline < age → margin_of deadline age ≡ negsuc (age - suc deadline)
unfolding margin_of
margin_late deadline zero h = absurd (omega arith)
margin_late deadline (suc age) h =
    ap (λ (b : Bool). cond b (negsuc (suc age - suc deadline)) (pos (deadline - suc age)))
    (lt-ltb deadline (suc age) h)

-- The margin of a job that is not late is what the deadline has left.
pub margin_left : (deadline age : ℕ) → age ≤ deadline → margin_of deadline age ≡ pos (deadline - age)
unfolding margin_of
margin_left deadline zero h = ap pos (let e : deadline + 0 ≡ deadline - 0 = omega arith in e)
margin_left deadline (suc age) h =
    ap (λ (b : Bool). cond b (negsuc (suc age - suc deadline)) (pos (deadline - suc age)))
    (le-ltb deadline (suc age) h)

-- A job of at most R ticks has no less margin than one of R ticks.
pub margin_falls : (deadline age R : ℕ) → age ≤ R → margin_of deadline R ≤ℤ margin_of deadline age
margin_falls deadline age R h =
    elim (dec_le R deadline) [
      | yes l ↦ rw (margin_left deadline R l, margin_left deadline age (omega arith))
          (record { le = le→leb (deadline - R) (deadline - age) (omega arith) })
      | no l ↦
          elim (dec_le age deadline) [
            | yes m ↦ rw (margin_late deadline R (omega arith), margin_left deadline age m) (record { le = tt })
            | no m ↦ rw (margin_late deadline R (omega arith), margin_late deadline age (omega arith))
                (record { le = le→leb (age - suc deadline) (R - suc deadline) (omega arith) })
          ]
    ]

-- ---- how large
-- A margin is at most 999,999 in size: deadline and age are both 1 to 1,000,000.
pub margin_size : (d a : ℕ) → 1 ≤ d → d ≤ longest → 1 ≤ a → a ≤ longest → nat_abs (margin_of d a) ≤ widest
margin_size d a p q r s =
    elim (dec_le a d) [
      | yes h ↦ rw (margin_left d a h) (omega arith)
      | no h ↦ rw (margin_late d a (omega arith)) (omega arith)
    ]

-- Either size of a difference is at most what bounds both.
abs_cond : (b : Bool) (m n k : ℕ) → suc m ≤ k → n ≤ k → nat_abs (cond b (negsuc m) (pos n)) ≤ k
abs_cond true m n k p q = p
abs_cond false m n k p q = q

-- A sum is at most as large as its parts together.
pub sum_size : (a b : ℤ) → nat_abs (a +ℤ b) ≤ nat_abs a + nat_abs b
sum_size (pos a) (pos b) = omega arith
sum_size (pos a) (negsuc b) = abs_cond (ltb a (suc b)) _ _ (a + suc b) (omega arith) (omega arith)
sum_size (negsuc a) (pos b) = abs_cond (ltb b (suc a)) _ _ (suc a + b) (omega arith) (omega arith)
sum_size (negsuc a) (negsuc b) = omega arith

-- ---- stored
-- A margin that is stored does not wrap.
stored_fits : (d a : ℕ) → d ≤ longest → a ≤ longest → SFits w32 (margin_of d a)
stored_fits d a p q =
    elim (dec_le a d) [
      | yes h ↦ rw (margin_left d a h) (record { sfits = omega arith })
      | no h ↦ rw (margin_late d a (omega arith)) (record { sfits = omega arith })
    ]

-- A margin that is stored is read back as it was.
pub margin_kept : (z : ℤ) (d a : ℕ) → d ≤ longest → a ≤ longest → z ≡ margin_of d a → to_z w32 (of_z w32 z) ≡ margin_of d a
margin_kept z d a p q e = rw e (to_z-of_z (stored_fits d a p q))
