-- The first place that holds something loses one: what the guest part and the task part of the windows go by. Assumes
-- nothing.
use mathlib.Core.Path.{◌≡◌, refl}
use mathlib.Core.List.{List}
use Prim.Native.Nat.{ℕ, ◌-◌, ◌≤◌, ◌<◌}
use native.Mathlib.Decide.{dec_lt}
use native.Mathlib.Omega.{arith}
use lib.Dec.{ltb}
use lib.ListN.{length, set}
use lib.Seq.{get_or-set_same, get_or-set_other}
use borrow.Author.Tests.{ltb-true, ltb-false}
use Rattle.lists.specs.Places.{nth}
use Rattle.lists.specs.Search.{first_from}
use Rattle.windows.specs.Served.{ServedFirst}
use Rattle.lists.proofs.Search.{first_found, first_before}

-- Among the n places `at 0`, `at 1`, … of a list, the first that holds something loses one, or there is none and the
-- list stands.
pub first_served :
    (l l' : List ℕ) (at : ℕ → ℕ) (n t i : ℕ)
    → i < n
    → t ≡ first_from (λ j. ltb 0 (nth l (at j))) n 0
    → (t < n → l' ≡ set l (at t) (nth l (at t) - 1))
    → (n ≤ t → l' ≡ l)
    → ((j : ℕ) → j < n → at j < length l)
    → ((j k : ℕ) → at j ≡ at k → j ≡ k)
    → ServedFirst i t (λ j. nth l (at j)) (λ j. nth l' (at j))
first_served l l' at n t i lt e hit miss long inj = record {
  before = λ j a b.
      omega (arith, ltb-false 0 (nth l (at j)) (first_before (λ m. ltb 0 (nth l (at m))) n 0 j (omega arith) (rw (← e) a)));
  took = λ a.
      let some : 0 < nth l (at t) =
      ltb-true 0 (nth l (at t)) (rw e (first_found (λ m. ltb 0 (nth l (at m))) n 0 (omega arith))) in
      let got : nth (set l (at t) (nth l (at t) - 1)) (at t) ≡ nth l (at t) - 1 =
      get_or-set_same l (at t) (nth l (at t) - 1) 0 (long t (omega arith)) in
      rw (hit (omega arith)) (omega arith);
  same = λ j a b.
      elim (dec_lt t n) [
        | yes h ↦ rw (hit h) (get_or-set_other l (at t) (at j) (nth l (at t) - 1) 0 (λ q. b (inj j t q)))
        | no h ↦ rw (miss (omega arith)) refl
      ];
}
