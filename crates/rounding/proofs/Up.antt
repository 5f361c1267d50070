-- Laws of the quotient rounded up. Assumes nothing.
use mathlib.Core.Path.{◌≡◌, refl, sym, ◌∙◌, ap}
use mathlib.Core.Bool.{Bool, false≢true}
use Prim.Native.Nat.{ℕ, zero, suc, ◌+◌, ◌-◌, ◌*◌, ◌/◌, ◌%◌, ◌≤◌, ◌<◌}
use native.Mathlib.Nat.{lt-div-mul-add, div-mul-le_self, div-zero, le-mul_of_pos_right, lt_of_mul-lt-mul_right, add-mul}
use native.Mathlib.Decide.{dec_lt}
use native.Mathlib.Omega.{arith}
use lib.Dec.{leb}
use Prim.Native.Nat.{min}
use Rattle.std.proofs.lemmas.Grind.{div_ceil_times}
use borrow.Author.Tests.{leb-true, le-leb}
use Rattle.lists.specs.Search.{first_from}
use Rattle.rounding.specs.Up.{up}
use Rattle.lists.proofs.Search.{first_found, first_le, first_before}

-- whether q blocks of b hold a
abbrev Hold : ℕ → ℕ → ℕ → Bool
Hold a b q = leb a (q * b)

-- the quotient rounded up is the least: k blocks of b that hold a are no fewer
pub up_least : (a b k : ℕ) → 0 < b → a ≤ k * b → up a b ≤ k
unfolding up
up_least a zero k pos h = absurd (omega arith)
up_least a (suc b) k pos h =
    elim (dec_lt k (first_from (Hold a (suc b)) a 0)) [
      | yes l ↦ absurd (false≢true (sym (first_before (Hold a (suc b)) a 0 k (omega arith) l) ∙ le-leb a (k * suc b) h))
      | no n ↦ omega arith
    ]

-- as many blocks as the quotient rounded up hold a
pub up_holds : (a b : ℕ) → 0 < b → a ≤ up a b * b
unfolding up
up_holds a zero pos = absurd (omega arith)
up_holds a (suc b) pos =
    elim (dec_lt (first_from (Hold a (suc b)) a 0) a) [
      | yes l ↦ leb-true _ _ (first_found (Hold a (suc b)) a 0 (omega arith))
      | no n ↦
          let e : first_from (Hold a (suc b)) a 0 ≡ a = omega (arith, first_le (Hold a (suc b)) a) in
          rw e (le-mul_of_pos_right a (omega arith))
    ]

-- a count of blocks whose last begins before a's end is no more than the quotient rounded up
pub le_up : (m a b : ℕ) → 0 < b → m * b < a + b → m ≤ up a b
le_up m a b pos h =
    let l : m < suc (up a b) = lt_of_mul-lt-mul_right b (omega (arith, up_holds a b pos)) in
    omega arith

-- the quotient by 0 is 0
pub up_zero : (a : ℕ) → up a 0 ≡ 0
unfolding up
up_zero a = refl

-- q blocks that hold a, of which the last begins before a's end, are the quotient rounded up
up_is : (a b q : ℕ) → 0 < b → a ≤ q * b → q * b < a + b → up a b ≡ q
up_is a b q pos h l = omega (arith, up_least a b q pos h, le_up q a b pos l)

-- the quotient rounded up is what the sum with the divisor less one gives
pub up_by_sum : (a b : ℕ) → up a b ≡ (a + (b - 1)) / b
up_by_sum a zero = up_zero a ∙ sym (div-zero (a + (0 - 1)))
up_by_sum a (suc b) =
    let s = a + (suc b - 1) in
    up_is a (suc b) (s / suc b) (omega arith) (omega (arith, lt-div-mul-add {a = s} {b = suc b} (omega arith)))
    (omega (arith, div-mul-le_self s (suc b)))

-- it is what the library's division gives, which rounds up
pub up_ceil : (a b : ℕ) → 0 < b → up a b ≡ a / b + min 1 (a % b)
up_ceil a b pos = up_is a b (a / b + min 1 (a % b)) pos (div_ceil_times a b pos).0 (div_ceil_times a b pos).1

-- where nothing is left over the quotient stays as it is
pub up_whole : (a b : ℕ) → 0 < b → a % b ≡ 0 → up a b ≡ a / b
up_whole a b pos e = omega (arith, up_ceil a b pos)

-- where something is left over the quotient is rounded up by one
pub up_more : (a b : ℕ) → 0 < b → 0 < a % b → up a b ≡ a / b + 1
up_more a b pos r = omega (arith, up_ceil a b pos)

-- the quotient rounded up grows with a, for every divisor
pub up_mono : (b : ℕ) {a a' : ℕ} → a ≤ a' → up a b ≤ up a' b
up_mono zero {a} {a'} h = omega (arith, up_zero a, up_zero a')
up_mono (suc b) {a} {a'} h =
    up_least a (suc b) (up a' (suc b)) (omega arith) (omega (arith, up_holds a' (suc b) (omega arith)))

-- the quotient rounded up is no more than a
pub up_le : (a b : ℕ) → up a b ≤ a
up_le a zero = omega (arith, up_zero a)
up_le a (suc b) = up_least a (suc b) a (omega arith) (le-mul_of_pos_right a (omega arith))

-- a number above 0 that one block holds takes one
pub up_one : (a b : ℕ) → 1 ≤ a → a ≤ b → up a b ≡ 1
up_one a b low high = up_is a b 1 (omega arith) (omega arith) (omega arith)

-- where q blocks hold a and are not too many, they are the quotient rounded up
pub up_stays : (a b q : ℕ) → q ≤ up a b → a ≤ q * b → up a b ≡ q
up_stays a zero q few h = omega (arith, up_zero a)
up_stays a (suc b) q few h = omega (arith, up_least a (suc b) q (omega arith) h)

-- How a number above 0 lies in blocks of size b: m whole ones, and then 1 to b.
pub record Blocks (a b m : ℕ) : Type 0 where
  pub count : up a b ≡ suc m
  pub more : m * b < a
  pub most : a ≤ m * b + b

-- each number above 0 lies so
pub blocks : (a b : ℕ) → 0 < b → 0 < a → Blocks a b (up a b - 1)
blocks a b pos apos = go (up a b) refl
  where
    go : (n : ℕ) → up a b ≡ n → Blocks a b (n - 1)
    go zero e = absurd (omega (arith, rw e at (up_holds a b pos)))
    go (suc m) e =
        let high : a ≤ suc m * b = rw e at (up_holds a b pos) in
        let low : ¬ (a ≤ m * b) = λ h. (let k : up a b ≤ m = up_least a b m pos h in omega arith) in
        let q : suc m - 1 ≡ m = omega arith in
        rw q record { count = e; more = omega arith; most = omega arith }

-- so many blocks pass a number above 0 by less than one
up_below : (a b : ℕ) → 0 < b → 0 < a → up a b * b < a + b
up_below a b pos apos =
    let s = blocks a b pos apos in
    let e : up a b * b ≡ suc (up a b - 1) * b = ap (λ (q : ℕ). q * b) s.count in
    omega (arith, s.more)

-- so many blocks pass a by no more than one
pub up_most : (a b : ℕ) → up a b * b ≤ a + b
up_most a zero = omega arith
up_most zero (suc b) = let e : up 0 (suc b) ≡ 0 = omega (arith, up_le 0 (suc b)) in rw e (omega arith)
up_most (suc a) (suc b) = omega (arith, up_below (suc a) (suc b) (omega arith) (omega arith))

-- where q blocks are too few, those that hold what is past them are added
pub up_past : (a b q : ℕ) → q ≤ up a b → q * b < a → up a b ≡ q + up (a - q * b) b
up_past a zero q few h = omega (arith, up_zero a, up_zero (a - q * 0))
up_past a (suc b) q few h =
    let more = up (a - q * suc b) (suc b) in
    let e : (q + more) * suc b ≡ q * suc b + more * suc b = add-mul q more (suc b) in
    up_is a (suc b) (q + more) (omega arith) (omega (arith, e, up_holds (a - q * suc b) (suc b) (omega arith)))
    (omega (arith, e, up_below (a - q * suc b) (suc b) (omega arith) (omega arith)))
