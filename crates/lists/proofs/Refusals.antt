-- Laws of an order of refusals: how code that tests in that order comes to its number. Assumes nothing.
use mathlib.Core.Path.{◌≡◌, refl}
use mathlib.Core.Bool.{Bool, true, false}
use mathlib.Core.List.{List, [], ◌∷◌, ◌++◌}
use Prim.Native.Nat.{ℕ, zero, suc, ◌<◌}
use native.Mathlib.Omega.{arith}
use Rattle.std.specs.Prelude.{Ok, Err}
use Rattle.lists.specs.Refusals.{Test, unless, refusal, ◌or_refuse◌, unless_number}

-- where no tests are left the number is 0
pub none_left : refusal [] ≡ 0
unfolding refusal
none_left = refl

-- a test passes: what comes after decides
pub go_on : {b : Bool} (n : ℕ) (ts : List Test) → b ≡ true → refusal (b or_refuse n ∷ ts) ≡ refusal ts
unfolding refusal unless
go_on n ts e = rw e refl

-- a test fails: the number is the test's
pub stop : {b : Bool} (n : ℕ) (ts : List Test) → b ≡ false → refusal (b or_refuse n ∷ ts) ≡ n
unfolding refusal unless
stop n ts e = rw e refl

-- where the number is another than the first test's, that test passed and the tests after it give the number
pub passed_on :
    (b : Bool) (n m : ℕ) (ts : List Test)
    → (n ≡ m → ⊥)
    → refusal (b or_refuse n ∷ ts) ≡ m
    → (b ≡ true) × (refusal ts ≡ m)
unfolding refusal unless
passed_on true n m ts d e = (refl, e)
passed_on false n m ts d e = absurd (d e)

-- where the number is 0 the first test passed and nothing after it refused
pub passed :
    (b : Bool) (n : ℕ) (ts : List Test) → 0 < n → refusal (b or_refuse n ∷ ts) ≡ 0 → (b ≡ true) × (refusal ts ≡ 0)
passed b n ts p e = passed_on b n 0 ts (λ q. omega arith) e

-- Where tests refuse, those after them do not matter.
pub tests_first : (xs ys : List Test) → 0 < refusal xs → refusal (xs ++ ys) ≡ refusal xs
unfolding refusal unless
tests_first [] ys h = absurd (omega arith)
tests_first (t ∷ ts) ys h = first_by t.passes t.number (tests_first ts ys) h
  where
    first_by : (b : Bool) (n : ℕ) {x y : ℕ} → (0 < x → y ≡ x) → 0 < unless b n x → unless b n y ≡ unless b n x
    first_by true n go h = go h
    first_by false n go h = refl

-- An outcome that is no number: the number is 0, and it is what was asked for.
pub ok_number : {A : Type 0} (n : ℕ) {v w : A} → Ok w ≡ unless_number n v → (n ≡ 0) × (w ≡ v)
ok_number zero e = (refl, cc)
ok_number (suc n) e = absurd cc

-- An outcome that is a number: it is the one that refuses.
pub err_number : {A : Type 0} (n : ℕ) (v : A) {m : ℕ} → Err m ≡ unless_number n v → (m ≡ n) × (0 < n)
err_number zero v e = absurd cc
err_number (suc n) v e = (cc, omega arith)
