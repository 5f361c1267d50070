-- Laws of the first refusal of several places, and of an order that starts with 1. Assumes nothing.
use mathlib.Core.Path.{◌≡◌, refl, sym, ap, ◌∙◌}
use mathlib.Core.Logic.{⊎_elim}
use mathlib.Core.Bool.{Bool, true, false, false≢true}
use Prim.Native.Nat.{ℕ, zero, suc, ◌<◌, ◌≤◌}
use native.Mathlib.Nat.{eq-or-lt_of_le}
use native.Mathlib.Omega.{arith}
use Rattle.plan.specs.declared.Refusal.{Refusal}
use Rattle.plan.specs.First.{refused, or_else, first_refused}
use Rattle.lists.specs.Exactly.{◌exactly_when◌, ◌not_but◌}
use Rattle.planfile_laws.specs.Exact.{FirstAt}

-- The first refusal, by what stands at place k.
first_by : (f : ℕ → ℕ) (m k n z x : ℕ) → f k ≡ x → or_else x k (first_refused f m (suc k)) ≡ refused (suc n) z
    → (first_refused f m (suc k) ≡ refused (suc n) z → FirstAt f m (suc k) (suc n) z)
    → FirstAt f (suc m) k (suc n) z
unfolding or_else
first_by f m k n z zero q h ih =
    let o = ih h in
    record {
      low = omega (arith, o.low);
      high = omega (arith, o.high);
      number = o.number;
      before = λ j l b. ⊎_elim (λ e. rw (← e) q) (λ e. o.before j e b) (eq-or-lt_of_le {n = k} {m = j} l);
    }
first_by f m k n z (suc x) q h ih =
    let a : suc x ≡ suc n = ap (λ (r : Refusal). r.number) h in
    let b : k ≡ z = ap (λ (r : Refusal). r.place) h in
    record {
      low = omega arith;
      high = omega arith;
      number = ap f (sym b) ∙ q ∙ a;
      before = λ j l c. absurd (omega arith);
    }

-- A refusal that is given is the first.
pub first_is : (f : ℕ → ℕ) (m k n z : ℕ) → first_refused f m k ≡ refused (suc n) z → FirstAt f m k (suc n) z
unfolding first_refused
first_is f zero k n z e = absurd (let q : ◌≡◌ {A = ℕ} 0 (suc n) = ap (λ (r : Refusal). r.number) e in omega arith)
first_is f (suc m) k n z e = first_by f m k n z (f k) refl e (first_is f m (suc k) n z)

-- The first is the refusal that is given.
pub is_first : (f : ℕ → ℕ) (m k n z : ℕ) → FirstAt f m k (suc n) z → first_refused f m k ≡ refused (suc n) z
unfolding first_refused or_else
is_first f zero k n z o = absurd (omega (arith, o.low, o.high))
is_first f (suc m) k n z o =
    ⊎_elim
    (λ (e : k ≡ z). let q : f k ≡ suc n = ap f e ∙ o.number in rw (q, e) refl)
    (λ (e : k < z).
    rw (o.before k (omega arith) e)
    (is_first f m (suc k) n z record {
      low = e;
      high = omega (arith, o.high);
      number = o.number;
      before = λ j l b. o.before j (omega arith) b;
    }))
    (eq-or-lt_of_le {n = k} {m = z} o.low)

or_most : (x k : ℕ) (r : Refusal) (bound : ℕ) → x ≤ bound → r.number ≤ bound → (or_else x k r).number ≤ bound
unfolding or_else
or_most zero k r bound a b = b
or_most (suc x) k r bound a b = a

-- No place's number is above a bound, so the refusal's is not.
pub first_most : (f : ℕ → ℕ) (bound : ℕ) → ((k : ℕ) → f k ≤ bound) → (m k : ℕ) → (first_refused f m k).number ≤ bound
unfolding first_refused
first_most f bound h zero k = omega arith
first_most f bound h (suc m) k = or_most (f k) k (first_refused f m (suc k)) bound (h k) (first_most f bound h m (suc k))

-- An order that starts with 1, the rest of it place by place: r is 1 where the first test fails, else the first of
-- the places' numbers.
module _ (f : ℕ → ℕ) (m : ℕ) (r : Refusal) (never : (k : ℕ) → f k ≡ 1 → ⊥) where
  one_by : (b : Bool) → (b ≡ true → r ≡ first_refused f m 0) → r.number ≡ 1 → b ≡ false
  one_by false g e = refl
  one_by true g e =
      let z : ℕ = (first_refused f m 0).place in
      let q : (first_refused f m 0).number ≡ 1 = ap (λ (x : Refusal). x.number) (sym (g refl)) ∙ e in
      let w : first_refused f m 0 ≡ refused 1 z = λ i. record { number = q i; place = z } in
      absurd (never z (first_is f m 0 0 z w).number)

  -- Number 1 is given exactly when the first test's cause holds.
  pub one_first : {A : Type 0} (b : Bool) → (b ≡ false → r ≡ refused 1 0) → (b ≡ true → r ≡ first_refused f m 0)
      → (b ≡ false) exactly_when A
      → (r.number ≡ 1) exactly_when A
  one_first b n g p = (λ e. p.0 (one_by b g e), λ x. ap (λ (x : Refusal). x.number) (n (p.1 x)))

  place_by : (b : Bool) (n z : ℕ) → (b ≡ false → r ≡ refused 1 0) → (b ≡ true → r ≡ first_refused f m 0)
      → r ≡ refused (suc (suc n)) z
      → (b ≡ true) × FirstAt f m 0 (suc (suc n)) z
  place_by false n z l g e =
      absurd (let q : ◌≡◌ {A = ℕ} 1 (suc (suc n)) = ap (λ (x : Refusal). x.number) (sym (l refl) ∙ e) in omega arith)
  place_by true n z l g e = (refl, first_is f m 0 (suc n) z (sym (g refl) ∙ e))

  is_true : (b : Bool) → ((b ≡ false) → ⊥) → b ≡ true
  is_true true h = refl
  is_true false h = absurd (h refl)

  -- Any other number is given exactly when that cause does not hold and the number is the first of the places'.
  pub place_first : {A : Type 0} (b : Bool) (n z : ℕ) → (b ≡ false → r ≡ refused 1 0)
      → (b ≡ true → r ≡ first_refused f m 0) → (b ≡ false) exactly_when A
      → (r ≡ refused (suc (suc n)) z) exactly_when (A not_but FirstAt f m 0 (suc (suc n)) z)
  place_first b n z l g p = (
    λ e. let o = place_by b n z l g e in (λ x. false≢true (sym (p.1 x) ∙ o.0), o.1),
    λ h. g (is_true b (λ e. h.0 (p.0 e))) ∙ is_first f m 0 (suc n) z h.1,
  )
