-- Rows of 54 words that say the same records are the same rows: what a plan in place promises decides each word.
-- Assumes nothing.
use mathlib.Core.Path.{◌≡◌, sym, ap, ◌∙◌}
use mathlib.Core.List.{List, []}
use Prim.Native.Nat.{ℕ, zero, suc, ◌+◌, ◌-◌, ◌%◌, ◌/◌, ◌≤◌, ◌<◌}
use native.Mathlib.Decide.{dec_lt}
use native.Mathlib.Omega.{arith}
use lib.ListN.{length, get_or}
use lib.Seq.{ext_get_or}
use Rattle.lists.specs.Places.{nth}
use Rattle.plan.specs.declared.Guest.{Guest}
use Rattle.plan.specs.declared.Plan.{Plan}
use Rattle.plan.specs.Records.{guest_at}
use Rattle.rows.specs.Words.{column, guest_of, plan_of}
use Rattle.lists.proofs.Table.{table_at}
use Rattle.rows.proofs.Words.{guest_is}

-- Two rows that say one record.
module _ (a b : List ℕ) (e : guest_of a ≡ guest_of b) where
  -- The words before the columns.
  head : (i : ℕ) → i < 6 → nth a i ≡ nth b i
  head zero h = ap (λ (g : Guest). g.id) e
  head (suc zero) h = ap (λ (g : Guest). g.capacity) e
  head (suc (suc zero)) h = ap (λ (g : Guest). g.period) e
  head (suc (suc (suc zero))) h = ap (λ (g : Guest). g.tasks) e
  head (suc (suc (suc (suc zero)))) h =
      let low : nth a 4 % 65536 ≡ nth b 4 % 65536 = ap (λ (g : Guest). g.charge) e in
      let high : nth a 4 / 65536 ≡ nth b 4 / 65536 = ap (λ (g : Guest). g.marks) e in
      omega (arith, low, high)
  head (suc (suc (suc (suc (suc zero))))) h = ap (λ (g : Guest). g.deferrable) e
  head (suc (suc (suc (suc (suc (suc n)))))) h = absurd (omega arith)

  -- The words of a column that starts at a word.
  within : (first i : ℕ) → column a first ≡ column b first → first ≤ i → i < first + 16 → nth a i ≡ nth b i
  unfolding column
  within first i q l h =
      let j = i - first in
      let back : first + j ≡ i = omega arith in
      let at : nth a (first + j) ≡ nth b (first + j) =
      sym (table_at (λ k. nth a (first + k)) 0 16 j (omega arith)) ∙ ap (λ (x : List ℕ). nth x j) q
      ∙ table_at (λ k. nth b (first + k)) 0 16 j (omega arith) in
      rw back at at

  -- Each of the 54.
  word : (i : ℕ) → i < 54 → nth a i ≡ nth b i
  word i h =
      elim (dec_lt i 6) [
        | yes l ↦ head i l
        | no l ↦ elim (dec_lt i 22) [
          | yes m ↦ within 6 i (ap (λ (g : Guest). g.run) e) (omega arith) (omega arith)
          | no m ↦ elim (dec_lt i 38) [
            | yes n ↦ within 22 i (ap (λ (g : Guest). g.every) e) (omega arith) (omega arith)
            | no n ↦ within 38 i (ap (λ (g : Guest). g.deadline) e) (omega arith) (omega arith)
          ]
        ]
      ]

  -- They are one row.
  row_same : length a ≡ 54 → length b ≡ 54 → a ≡ b
  row_same p q = ext_get_or 0 a b (p ∙ sym q) (λ i h. word i (omega arith))

-- Eight rows of 54 words that say one plan are the same rows.
pub rows_same : (count : ℕ) (a b : List (List ℕ)) → length a ≡ 8 → length b ≡ 8
    → ((k : ℕ) → k < 8 → (length (get_or a k []) ≡ 54) × (length (get_or b k []) ≡ 54)) → plan_of count a ≡ plan_of count b
    → a ≡ b
rows_same count a b p q long e =
    ext_get_or [] a b (p ∙ sym q) (λ k h.
    let l : k < 8 = omega arith in
    let here : guest_of (get_or a k []) ≡ guest_of (get_or b k []) =
    guest_is count a k l ∙ ap (λ (x : Plan). guest_at x.guests k) e ∙ sym (guest_is count b k l) in
    row_same (get_or a k []) (get_or b k []) here (long k l).0 (long k l).1)
