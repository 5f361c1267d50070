-- Laws of an order of refusals: a number is given exactly when its cause holds and none of those before it does.
-- Assumes nothing.
use mathlib.Core.Path.{◌≡◌, refl, sym, ◌∙◌}
use mathlib.Core.Bool.{Bool, true, false, false≢true}
use mathlib.Core.List.{List, [], ◌∷◌}
use Prim.Native.Nat.{ℕ, ◌<◌}
use native.Mathlib.Omega.{arith}
use lib.Dec.{eqb}
use borrow.Author.Tests.{eq-eqb}
use Rattle.lists.specs.Choice.{pick}
use Rattle.lists.specs.Exactly.{◌exactly_when◌, ◌not_but◌}
use Rattle.lists.specs.Refusals.{Test, refusal, unless, ◌or_refuse◌}

-- Whether a test of the list has the number.
unfoldable pub among : List Test → ℕ → Bool
among [] n = false
among (t ∷ ts) n = pick (eqb t.number n) true (among ts n)

pick_false : (c x : Bool) → pick c true x ≡ false → (c ≡ false) × (x ≡ false)
pick_false true x e = absurd (false≢true (sym e))
pick_false false x e = (refl, e)

not_by : (b : Bool) (m n r : ℕ) → (m ≡ n → ⊥) → (r ≡ n → ⊥) → unless b m r ≡ n → ⊥
unfolding unless
not_by true m n r d f e = f e
not_by false m n r d f e = d e

-- A number that no test has is not given.
pub not_given : (ts : List Test) (n : ℕ) → 0 < n → among ts n ≡ false → refusal ts ≡ n → ⊥
unfolding refusal among
not_given [] n h a e = omega arith
not_given (t ∷ ts) n h a e =
    let p = pick_false (eqb t.number n) (among ts n) a in
    not_by t.passes t.number n (refusal ts) (λ q. false≢true (sym p.0 ∙ eq-eqb t.number n q))
    (not_given ts n h p.1) e

-- The first test's number is given exactly when its cause holds.
pub given_first : (b : Bool) (n : ℕ) (ts : List Test) {A : Type 0} → 0 < n → among ts n ≡ false
    → (b ≡ false) exactly_when A
    → (refusal (b or_refuse n ∷ ts) ≡ n) exactly_when A
unfolding refusal unless
given_first true n ts h a p = (λ e. absurd (not_given ts n h a e), λ x. absurd (false≢true (sym (p.1 x))))
given_first false n ts h a p = (λ e. p.0 refl, λ x. refl)

-- A later test's number is given exactly when the first one's cause does not hold and its own, in the order of the
-- rest, does.
pub given_later : (b : Bool) (n m : ℕ) (ts : List Test) {A B : Type 0} → (n ≡ m → ⊥) → (b ≡ false) exactly_when A
    → (refusal ts ≡ m) exactly_when B
    → (refusal (b or_refuse n ∷ ts) ≡ m) exactly_when (A not_but B)
unfolding refusal unless
given_later true n m ts d p q = (
  λ e. (λ x. false≢true (sym (p.1 x)), q.0 e),
  λ h. q.1 h.1,
)
given_later false n m ts d p q = (λ e. absurd (d e), λ h. absurd (h.0 (p.0 refl)))

-- Of one test, no number is given exactly when its cause does not hold.
pub given_none : (b : Bool) (n : ℕ) {A : Type 0} → 0 < n → (b ≡ false) exactly_when A
    → (refusal (b or_refuse n ∷ []) ≡ 0) exactly_when (A → ⊥)
unfolding refusal unless
given_none true n h p = (λ e x. false≢true (sym (p.1 x)), λ d. refl)
given_none false n h p = (λ e. absurd (omega arith), λ d. absurd (d (p.0 refl)))
