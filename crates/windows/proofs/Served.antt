-- Laws of a tick's one unit. Assumes nothing.
use mathlib.Core.Path.{◌≡◌}
use Prim.Native.Nat.{ℕ, suc, ◌+◌, ◌≤◌, ◌<◌}
use native.Mathlib.Decide.{dec_le, ℕ_discrete}
use native.Mathlib.Omega.{arith}
use Rattle.lists.specs.Sum.{sum_to}
use Rattle.windows.specs.Served.{ServedFirst}
use Rattle.lists.proofs.Sum.{sum_last, sum_bump, sum_zero}

module _ {i t : ℕ} {had left : ℕ → ℕ} (S : ServedFirst i t had left) where
  -- where the places up to i had something, they lose one together
  pub served_one : 0 < sum_to had (suc i) → sum_to left (suc i) + 1 ≡ sum_to had (suc i)
  served_one some =
      elim (dec_le t i) [
        | yes l ↦ sum_bump left had 1 (suc i) t (omega arith) (S.took l) (λ j a n. S.same j (omega arith) n)
        | no n ↦ absurd (omega (arith, sum_zero had (suc i) (λ j a. S.before j (omega arith) (omega arith))))
      ]

  -- no place gains
  pub served_le : (j : ℕ) → j ≤ i → left j ≤ had j
  served_le j l =
      elim (ℕ_discrete j t) [
        | yes e ↦ rw e (omega (arith, S.took (omega arith)))
        | no n ↦ omega (arith, S.same j l n)
      ]

  -- the last place runs out only when all before it have
  pub served_last : 0 < sum_to left (suc i) → left i ≡ 0 → had i ≡ 0
  served_last some e =
      elim (ℕ_discrete i t) [
        | yes q ↦
            absurd (omega (
              arith,
              sum_last left i,
              sum_zero left i
                  (λ j l. omega (arith, served_le j (omega arith), S.before j (omega arith) (omega arith))),
            ))
        | no n ↦ omega (arith, S.same i (omega arith) n)
      ]

-- numbers that are equal are served alike
pub served_as : {i t : ℕ} {had left had' : ℕ → ℕ} → ((j : ℕ) → j ≤ i → had' j ≡ had j) → ServedFirst i t had left
    → ServedFirst i t had' left
served_as {t = t} same S = record {
  before = λ j a b. omega (arith, same j b, S.before j a b);
  took = λ a. omega (arith, same t a, S.took a);
  same = λ j a b. omega (arith, same j a, S.same j a b);
}
