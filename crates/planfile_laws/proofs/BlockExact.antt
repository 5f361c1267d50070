-- When each number of one block is given, whatever is asked of its place and of ids. Assumes nothing.
use mathlib.Core.Path.{◌≡◌, refl}
use mathlib.Core.Bool.{Bool, false, ◌&&◌}
use mathlib.Core.List.{List, []}
use Prim.Native.Nat.{ℕ}
use native.Mathlib.Omega.{arith}
use Rattle.lists.specs.Exactly.{◌exactly_when◌, ◌not_but◌}
use Rattle.plan.specs.Ranges.{guest_ok, tasks_ok}
use Rattle.block.specs.Reading.{guest_of, sums_to_zero, kind_ok, zeros_ok, block_number}
use Rattle.planfile_laws.specs.Causes.{WrongSum, WrongZero, WrongTask}
use Rattle.lists.proofs.Exactly.{among, given_first, given_later, given_none}
use Rattle.planfile_laws.proofs.Causes.{sum_fails, tasks_fail}
use Rattle.planfile_laws.proofs.Zeros.{zeros_fail}

-- Each is given exactly when its cause holds and none of those before it does; `Opening` is the cause of 3 and `Guest`
-- that of 4.
module _ (b : List ℕ) (placed new : Bool) {Opening Guest : Type 0}
    (opening : ((kind_ok b && placed) ≡ false) exactly_when Opening)
    (guest : ((guest_ok (guest_of b) && new) ≡ false) exactly_when Guest) where
  pub block_two : (block_number b placed new ≡ 2) exactly_when WrongSum b
  unfolding block_number among
  block_two = given_first (sums_to_zero b) 2 _ (omega arith) refl (sum_fails b)

  pub block_three : (block_number b placed new ≡ 3) exactly_when (WrongSum b not_but Opening)
  unfolding block_number among
  block_three =
      given_later (sums_to_zero b) 2 3 _ (λ q. omega arith) (sum_fails b)
      (given_first (kind_ok b && placed) 3 _ (omega arith) refl opening)

  pub block_four : (block_number b placed new ≡ 4) exactly_when (WrongSum b not_but Opening not_but Guest)
  unfolding block_number among
  block_four =
      given_later (sums_to_zero b) 2 4 _ (λ q. omega arith) (sum_fails b)
      (given_later (kind_ok b && placed) 3 4 _ (λ q. omega arith) opening
      (given_first (guest_ok (guest_of b) && new) 4 _ (omega arith) refl guest))

  pub block_five :
      (block_number b placed new ≡ 5) exactly_when (WrongSum b not_but Opening not_but Guest not_but WrongZero b)
  unfolding block_number among
  block_five =
      given_later (sums_to_zero b) 2 5 _ (λ q. omega arith) (sum_fails b)
      (given_later (kind_ok b && placed) 3 5 _ (λ q. omega arith) opening
      (given_later (guest_ok (guest_of b) && new) 4 5 _ (λ q. omega arith) guest
      (given_first (zeros_ok b) 5 _ (omega arith) refl (zeros_fail b))))

  pub block_six :
      (block_number b placed new ≡ 6)
      exactly_when (WrongSum b not_but Opening not_but Guest not_but WrongZero b not_but WrongTask (guest_of b))
  unfolding block_number among
  block_six =
      given_later (sums_to_zero b) 2 6 _ (λ q. omega arith) (sum_fails b)
      (given_later (kind_ok b && placed) 3 6 _ (λ q. omega arith) opening
      (given_later (guest_ok (guest_of b) && new) 4 6 _ (λ q. omega arith) guest
      (given_later (zeros_ok b) 5 6 _ (λ q. omega arith) (zeros_fail b)
      (given_first (tasks_ok (guest_of b)) 6 [] (omega arith) refl (tasks_fail (guest_of b))))))

  -- No number is given exactly when none of the causes holds.
  pub block_none :
      (block_number b placed new ≡ 0)
      exactly_when (WrongSum b not_but Opening not_but Guest not_but WrongZero b not_but (WrongTask (guest_of b) → ⊥))
  unfolding block_number
  block_none =
      given_later (sums_to_zero b) 2 0 _ (λ q. omega arith) (sum_fails b)
      (given_later (kind_ok b && placed) 3 0 _ (λ q. omega arith) opening
      (given_later (guest_ok (guest_of b) && new) 4 0 _ (λ q. omega arith) guest
      (given_later (zeros_ok b) 5 0 _ (λ q. omega arith) (zeros_fail b)
      (given_none (tasks_ok (guest_of b)) 6 (omega arith) (tasks_fail (guest_of b))))))
