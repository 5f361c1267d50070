-- Laws of the first refusal, and of an answer that is a refusal or else what was asked for. Assumes nothing.
use mathlib.Core.Path.{◌≡◌, refl, sym, ap, ◌∙◌}
use mathlib.Core.Bool.{Bool, true, false}
use mathlib.Core.List.{List, [], ◌∷◌}
use Prim.Native.Nat.{ℕ, zero, suc, ◌+◌, ◌-◌, ◌≤◌, ◌<◌}
use native.Mathlib.Numerals.{add-one}
use native.Mathlib.Omega.{arith}
use native.Mathlib.Decide.{dec_le, ℕ_discrete}
use Rattle.lists.specs.Refusals.{Test, refusal, ◌or_refuse◌}
use Rattle.plan.specs.declared.Refusal.{Refusal}
use Rattle.plan.specs.First.{refused, fine, or_else, first_refused, refused_by, refused_or, unless_refused}
use Rattle.std.specs.Prelude.{Ok, Err}
use Rattle.lists.proofs.Refusals.{none_left, go_on, stop}

-- a loop's way out: place k is refused
pub first_here : (f : ℕ → ℕ) (n k x : ℕ) → k < n → x ≡ f k → 0 < x → refused x k ≡ first_refused f (n - k) k
unfolding first_refused or_else
first_here f n k zero h e p = absurd (omega arith)
first_here f n k (suc m) h e p = let q : n - k ≡ suc (n - (k + 1)) = omega arith in rw (q, ← e) refl

-- a loop's turn: place k is not refused
pub first_next : (f : ℕ → ℕ) (n k x : ℕ) → k < n → x ≡ f k → x ≤ 0
    → first_refused f (n - (k + 1)) (k + 1) ≡ first_refused f (n - k) k
unfolding first_refused or_else
first_next f n k x h e p =
    let q : n - k ≡ suc (n - (k + 1)) = omega arith in
    let z : f k ≡ 0 = omega arith in
    rw (q, z, add-one) refl

-- a loop's end: no place is left
pub first_end : (f : ℕ → ℕ) (n k : ℕ) → n ≤ k → fine ≡ first_refused f (n - k) k
unfolding first_refused
first_end f n k h = let q : n - k ≡ 0 = omega arith in rw q

-- a number above 0 goes before what comes after
pub refused_here : (x k : ℕ) (after : Refusal) → 0 < x → refused x k ≡ or_else x k after
unfolding or_else
refused_here zero k after h = absurd (omega arith)
refused_here (suc n) k after h = refl

-- where the number is 0 what comes after stands
pub or_after : (x k : ℕ) (after : Refusal) → x ≤ 0 → after ≡ or_else x k after
unfolding or_else
or_after zero k after h = refl
or_after (suc n) k after h = absurd (omega arith)

-- where there is no refusal there is none here and none after
pub after_zero : (x k : ℕ) (r : Refusal) → (or_else x k r).number ≡ 0 → (x ≡ 0) × (r.number ≡ 0)
unfolding or_else
after_zero zero k r e = (refl, e)
after_zero (suc n) k r e = absurd (omega arith)

-- where there is no refusal no place has a number
pub none_refused : (f : ℕ → ℕ) (m k : ℕ) → (first_refused f m k).number ≡ 0 → (z : ℕ) → k ≤ z → z < k + m → f z ≡ 0
unfolding first_refused
none_refused f zero k e z l h = absurd (omega arith)
none_refused f (suc m) k e z l h =
    let p = after_zero (f k) k (first_refused f m (suc k)) e in
    elim (ℕ_discrete k z) [ yes q ↦ rw (← q) p.0 | no q ↦ none_refused f m (suc k) p.1 z (omega arith) (omega arith) ]

-- where no place has a number nothing is refused
pub first_fine : (f : ℕ → ℕ) (m k : ℕ) → ((z : ℕ) → k ≤ z → z < k + m → f z ≡ 0) → first_refused f m k ≡ fine
unfolding first_refused or_else
first_fine f zero k h = refl
first_fine f (suc m) k h =
    rw (h k (omega arith) (omega arith)) (first_fine f m (suc k) (λ z l b. h z (omega arith) (omega arith)))

-- Refusals come one after the other, however they are grouped.
or_grouped :
    (x k : ℕ) (r s : Refusal)
    → or_else x k (or_else r.number r.place s) ≡ or_else (or_else x k r).number (or_else x k r).place s
unfolding or_else
or_grouped zero k r s = refl
or_grouped (suc n) k r s = refl

-- One place more is looked at last.
first_more :
    (f : ℕ → ℕ) (m k : ℕ)
    → first_refused f (suc m) k
    ≡ or_else (first_refused f m k).number (first_refused f m k).place (or_else (f (k + m)) (k + m) fine)
unfolding first_refused or_else
first_more f zero k = let e : k + 0 ≡ k = omega arith in rw e refl
first_more f (suc m) k =
    let e : suc k + m ≡ k + suc m = omega arith in
    ap (or_else (f k) k) (rw e at (first_more f m (suc k)))
    ∙ or_grouped (f k) k (first_refused f m (suc k)) (or_else (f (k + suc m)) (k + suc m) fine)

-- A loop that goes on past what is refused, and keeps the first refusal of the n places before.
module _ (f : ℕ → ℕ) (n : ℕ) where
  abbrev so_far : Refusal
  so_far = first_refused f n 0

  last_place_lem : first_refused f (n + 1) 0 ≡ or_else so_far.number so_far.place (or_else (f n) n fine)
  last_place_lem = let e : 0 + n ≡ n = omega arith in rw (add-one, first_more f n 0, e) refl

  -- An earlier place is refused: it stays the first.
  pub first_already : 0 < (first_refused f n 0).number → first_refused f (n + 1) 0 ≡ first_refused f n 0
  first_already h = last_place_lem ∙ sym (refused_here so_far.number so_far.place _ h)

  -- None was refused: place n decides.
  none_before : (first_refused f n 0).number ≤ 0 → first_refused f (n + 1) 0 ≡ or_else (f n) n fine
  none_before h = last_place_lem ∙ sym (or_after so_far.number so_far.place _ h)

  -- None was refused, and place n is: it is the first.
  pub first_new : (first_refused f n 0).number ≤ 0 → 0 < f n → first_refused f (n + 1) 0 ≡ refused (f n) n
  first_new h l = none_before h ∙ sym (refused_here (f n) n fine l)

  -- Place n is not refused: the first is as it was.
  pub first_passes : f n ≤ 0 → first_refused f (n + 1) 0 ≡ first_refused f n 0
  first_passes l =
      elim (dec_le so_far.number 0) [
        | yes h ↦
            none_before h ∙ sym (or_after (f n) n fine l)
            ∙ sym (first_fine f n 0 (λ z a b. none_refused f n 0 (omega arith) z a b))
        | no h ↦ first_already (omega arith)
      ]

-- an answer that is a refusal or else v
module _ {A : Type 0} (refuse : ℕ → ℕ → A) where
  -- a number above 0 refuses
  pub number_refuses : (x place : ℕ) (v : A) → 0 < x → refuse x place ≡ refused_by refuse x place v
  unfolding refused_by
  number_refuses zero place v h = absurd (omega arith)
  number_refuses (suc x) place v h = refl

  -- number 0 leaves the answer
  pub number_passes : (x place : ℕ) (v : A) → x ≤ 0 → v ≡ refused_by refuse x place v
  unfolding refused_by
  number_passes zero place v h = refl
  number_passes (suc x) place v h = absurd (omega arith)

  -- a test that fails refuses
  pub test_refuses :
      {b : Bool} (n : ℕ) (ts : List Test) (v : A)
      → 0 < n
      → b ≡ false
      → refuse n 0 ≡ refused_by refuse (refusal (b or_refuse n ∷ ts)) 0 v
  unfolding refused_by
  test_refuses zero ts v h e = absurd (omega arith)
  test_refuses (suc n) ts v h e = rw (stop (suc n) ts e) refl

  -- a test that passes leaves those after it
  pub test_passes :
      {b : Bool} (n : ℕ) (ts : List Test) (v : A)
      → b ≡ true
      → refused_by refuse (refusal ts) 0 v ≡ refused_by refuse (refusal (b or_refuse n ∷ ts)) 0 v
  test_passes n ts v e = rw (go_on n ts e) refl

  -- where no test is left the answer is given
  pub no_test : (v : A) → v ≡ refused_by refuse (refusal []) 0 v
  unfolding refused_by
  no_test v = rw none_left refl

-- what an answer tells is the refusal or else what it tells of the answer asked for
pub refused_told : {A B : Type 0} (f : A → B) (refuse : ℕ → ℕ → A) (n k : ℕ) (v : A) (u : B) → f v ≡ u
    → f (refused_by refuse n k v) ≡ refused_by (λ x place. f (refuse x place)) n k u
unfolding refused_by
refused_told f refuse zero k v u e = e
refused_told f refuse (suc n) k v u e = refl

-- an outcome that a refusal ends
module _ {A : Type 0} where
  ok_by : (n k : ℕ) {v w : A} → Ok w ≡ refused_or n k v → (n ≡ 0) × (w ≡ v)
  ok_by zero k e = (refl, cc)
  ok_by (suc n) k e = absurd cc

  err_by : (n k : ℕ) (v : A) {s : Refusal} → Err s ≡ refused_or n k v → (s ≡ refused n k) × (0 < n)
  err_by zero k v e = absurd cc
  err_by (suc n) k v e = (cc, omega arith)

  by_ok : (n k : ℕ) (v : A) → n ≤ 0 → Ok v ≡ refused_or n k v
  by_ok zero k v h = refl
  by_ok (suc n) k v h = absurd (omega arith)

  by_err : (n k : ℕ) (v : A) → 0 < n → Err (refused n k) ≡ refused_or n k v
  by_err zero k v h = absurd (omega arith)
  by_err (suc n) k v h = refl

  module _ (r : Refusal) where
    -- an outcome that is no refusal: the number is 0, and it is what was asked for
    pub ok_says : {v w : A} → Ok w ≡ unless_refused r v → (r.number ≡ 0) × (w ≡ v)
    ok_says = ok_by r.number r.place

    -- an outcome that is a refusal: it is the one that ends it
    pub err_says : (v : A) {s : Refusal} → Err s ≡ unless_refused r v → (s ≡ r) × (0 < r.number)
    err_says = err_by r.number r.place

    -- number 0 leaves what was asked for
    pub ok_unless : (v : A) → r.number ≤ 0 → Ok v ≡ unless_refused r v
    ok_unless = by_ok r.number r.place

    -- a number above 0 refuses
    pub err_unless : (v : A) {s : Refusal} → s ≡ r → 0 < s.number → Err s ≡ unless_refused r v
    err_unless v {s} e h = rw e (by_err r.number r.place v (rw e at h))
