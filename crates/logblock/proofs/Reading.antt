-- A block that passes every test is refused by no number, and the other way about. Assumes nothing.
use mathlib.Core.Path.{◌≡◌, sym, ◌∙◌}
use mathlib.Core.Bool.{true}
use mathlib.Core.List.{List, []}
use Prim.Native.Nat.{ℕ}
use native.Mathlib.Omega.{arith}
use Rattle.block.specs.Reading.{sums_to_zero}
use Rattle.logblock.specs.Reading.{is_log, jobs_pass, rest_zero, own_number}
use Rattle.lists.proofs.Refusals.{none_left, go_on, passed}

-- A block that passes every test is refused by no number.
pub none :
    (b : List ℕ)
    → sums_to_zero b ≡ true
    → is_log b ≡ true
    → jobs_pass b ≡ true
    → rest_zero b ≡ true
    → 0 ≡ own_number b
unfolding own_number
none b sums opens jobs rest =
    sym (go_on 2 _ sums ∙ go_on 3 _ opens ∙ go_on 18 _ jobs ∙ go_on 5 _ rest ∙ none_left)

-- A block that no number refuses passes every test.
pub record OwnIn (b : List ℕ) : Type 0 where
  pub sums : sums_to_zero b ≡ true
  pub opens : is_log b ≡ true
  pub jobs : jobs_pass b ≡ true
  pub rest : rest_zero b ≡ true

pub own_in : (b : List ℕ) → own_number b ≡ 0 → OwnIn b
unfolding own_number
own_in b e =
    let a2 = passed (sums_to_zero b) 2 _ (omega arith) e in
    let a3 = passed (is_log b) 3 _ (omega arith) a2.1 in
    let a18 = passed (jobs_pass b) 18 _ (omega arith) a3.1 in
    let a5 = passed (rest_zero b) 5 [] (omega arith) a18.1 in
    record { sums = a2.0; opens = a3.0; jobs = a18.0; rest = a5.0 }
