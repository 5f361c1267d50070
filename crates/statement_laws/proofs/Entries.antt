-- Laws of ages one after the other: what is stated of both together. Assumes nothing.
use mathlib.Core.Path.{◌≡◌, refl, sym, ap, ◌∙◌}
use mathlib.Core.Bool.{Bool, true, false}
use mathlib.Core.List.{List, [], ◌∷◌, ◌++◌, append-nil}
use Prim.Native.Nat.{ℕ, ◌+◌, max}
use native.Mathlib.Omega.{arith}
use lib.Dec.{ltb}
use lib.IntN.{ℤ, ◌+ℤ◌, +ℤ_idl, +ℤ_idr, +ℤ_assoc}
use Rattle.lists.specs.Choice.{pick}
use Rattle.margins.specs.Margin.{margin_of}
use Rattle.logblock.specs.declared.Entry.{Entry}
use Rattle.statement_laws.specs.Entries.{names, ages_of, greatest, late_in, margins_in}

-- The ages of entries one after the other are theirs one after the other.
pub ages_join : (guest task : ℕ) (es fs : List Entry)
    → ages_of guest task (es ++ fs) ≡ ages_of guest task es ++ ages_of guest task fs
unfolding ages_of
ages_join guest task [] fs = refl
ages_join guest task (e ∷ es) fs =
    by (names guest task e) _ (ages_of guest task es) (ages_of guest task fs) (ages_join guest task es fs)
  where
    by : (t : Bool) (xs ys zs : List ℕ) → xs ≡ ys ++ zs → pick t (e.age ∷ xs) xs ≡ pick t (e.age ∷ ys) ys ++ zs
    by true xs ys zs q = ap (λ (l : List ℕ). e.age ∷ l) q
    by false xs ys zs q = q

-- An entry of the task adds its age.
pub ages_own : (guest task : ℕ) (es : List Entry) (e : Entry) → names guest task e ≡ true
    → ages_of guest task (es ++ (e ∷ [])) ≡ ages_of guest task es ++ (e.age ∷ [])
unfolding ages_of
ages_own guest task es e t = ages_join guest task es (e ∷ []) ∙ rw t refl

-- An entry of another task adds none.
pub ages_other : (guest task : ℕ) (es : List Entry) (e : Entry) → names guest task e ≡ false
    → ages_of guest task (es ++ (e ∷ [])) ≡ ages_of guest task es
unfolding ages_of
ages_other guest task es e t = ages_join guest task es (e ∷ []) ∙ rw (t, append-nil) refl

-- The greatest with one age more.
pub greatest_next : (ages : List ℕ) (age : ℕ) → greatest (ages ++ (age ∷ [])) ≡ max (greatest ages) age
unfolding greatest
greatest_next [] age = omega arith
greatest_next (a ∷ ages) age = omega (arith, greatest_next ages age)

-- The late ones with one age more.
pub late_next : (deadline : ℕ) (ages : List ℕ) (age : ℕ)
    → late_in deadline (ages ++ (age ∷ [])) ≡ late_in deadline ages + pick (ltb deadline age) 1 0
unfolding late_in
late_next deadline [] age = omega arith
late_next deadline (a ∷ ages) age = omega (arith, late_next deadline ages age)

-- The sum of the margins with one age more.
pub margins_next : (deadline : ℕ) (ages : List ℕ) (age : ℕ)
    → margins_in deadline (ages ++ (age ∷ [])) ≡ margins_in deadline ages +ℤ margin_of deadline age
unfolding margins_in
margins_next deadline [] age = +ℤ_idr (margin_of deadline age) ∙ sym (+ℤ_idl (margin_of deadline age))
margins_next deadline (a ∷ ages) age =
    ap (λ (z : ℤ). margin_of deadline a +ℤ z) (margins_next deadline ages age)
    ∙ sym (+ℤ_assoc (margin_of deadline a) (margins_in deadline ages) (margin_of deadline age))
