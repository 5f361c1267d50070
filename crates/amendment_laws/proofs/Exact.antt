-- When each refusal of a pair is given, and when a block is found in the sheet or in the plan. Assumes nothing.
use Rattle.std.specs.Prelude.{Option, Some, None}
use mathlib.Core.Path.{◌≡◌, refl, sym, ap, ◌∙◌}
use mathlib.Core.Logic.{inl, inr, ⊎_elim}
use mathlib.Core.Bool.{false, false≢true}
use mathlib.Core.List.{List, [], ◌∷◌}
use Prim.Native.Nat.{ℕ, zero, suc, ◌≤◌}
use native.Mathlib.Omega.{arith}
use lib.Dec.{eqb}
use borrow.Author.Tests.{eq-eqb, ne_eqb, eqb-false}
use Rattle.lists.specs.Exactly.{◌exactly_when◌}
use Rattle.lists.specs.Refusals.{◌or_refuse◌}
use Rattle.plan.specs.First.{refused, or_else, first_refused, refused_by}
use Rattle.block.specs.Reading.{place_in}
use Rattle.blockfile.specs.File.{block_at, id_at, blocks_in, blocks_refusal, file_refusal, first_with}
use Rattle.planfile_laws.specs.Exact.{FirstAt}
use Rattle.amendment.specs.declared.Located.{Located}
use Rattle.amendment.specs.Pair.{in_plan, in_sheet, is_found_at, known_at, foreign_number, sheet_refusal, pair_refusal}
use Rattle.amendment_laws.specs.Causes.{Foreign}
use Rattle.lists.proofs.Exactly.{among, not_given, given_first}
use Rattle.lists.proofs.Search.{least_says, Nowhere}
use Rattle.plan.proofs.First.{or_after}
use Rattle.blockfile.proofs.File.{found_at}
use Rattle.planfile_laws.proofs.Exact.{most, past_file}
use Rattle.planfile_laws.proofs.Order.{first_is, is_first}
use Rattle.amendment_laws.proofs.Ids.{one_place}

module _ (plan sheet : List ℕ) (k : ℕ) (ok : (file_refusal plan).number ≡ 0) where
  -- What 16's test says, by what the search for the block's id found.
  fails_by : (f : Option ℕ) → first_with plan (id_at sheet k) ≡ f
      → (is_found_at f (place_in (block_at sheet k)) ≡ false) exactly_when Foreign plan sheet k
  unfolding is_found_at
  fails_by None e =
      let w : Nowhere (λ j. eqb (id_at plan j) (id_at sheet k)) (blocks_in plan) 0 =
      rw e at (least_says (λ j. eqb (id_at plan j) (id_at sheet k)) (blocks_in plan) 0) in (
        λ q.
            inl (λ h. false≢true (sym (w.never h.0 (omega arith) (omega (arith, h.1.0))) ∙ eq-eqb _ _ h.1.1)),
        λ h. refl,
      )
  fails_by (Some j) e =
      let o = found_at plan (id_at sheet k) j e in (
        λ q. inr (j, (o.0, (o.1, λ p. eqb-false j (place_in (block_at sheet k)) q (sym p)))),
        λ h.
            ⊎_elim (λ no. absurd (no (j, o)))
            (λ w.
            ne_eqb j (place_in (block_at sheet k))
            (λ p. w.1.1.1 (sym p ∙ one_place plan ok j w.0 o.0 w.1.0 (o.1 ∙ sym w.1.1.0))))
            h,
      )

  -- 16, of block k: its id is not in the plan, or its place is not its guest's.
  pub foreign_exactly : (foreign_number plan sheet k ≡ 16) exactly_when Foreign plan sheet k
  unfolding foreign_number among
  foreign_exactly =
      given_first (known_at plan sheet k) 16 [] (omega arith) refl
      (fails_by (first_with plan (id_at sheet k)) refl)

module _ (plan sheet : List ℕ) where
  other_number : (n k : ℕ) → (16 ≡ suc n → ⊥) → foreign_number plan sheet k ≡ suc n → ⊥
  unfolding foreign_number among
  other_number n k d e =
      not_given (known_at plan sheet k or_refuse 16 ∷ []) (suc n) (omega arith) (rw (ne_eqb 16 (suc n) d) refl) e

  -- 1 to 6 of the sheet are those of reading its blocks.
  pub sheet_exactly : (n k : ℕ) → suc n ≤ 6
      → (sheet_refusal plan sheet ≡ refused (suc n) k) exactly_when (blocks_refusal false sheet ≡ refused (suc n) k)
  unfolding sheet_refusal or_else
  sheet_exactly n k l = (
    by (blocks_refusal false sheet).number (blocks_refusal false sheet).place,
    λ e. rw e refl,
  )
    where
      by : (x q : ℕ) → or_else x q (first_refused (foreign_number plan sheet) (blocks_in sheet) 0) ≡ refused (suc n) k
          → refused x q ≡ refused (suc n) k
      by zero q e =
          absurd
          (other_number n k (λ d. omega arith) (first_is (foreign_number plan sheet) (blocks_in sheet) 0 n k e).number)
      by (suc x) q e = e

  -- 16 at position k: all blocks of the sheet are read, and block k is the first of no guest of the plan.
  pub sixteen_exactly : (k : ℕ)
      → (sheet_refusal plan sheet ≡ refused 16 k)
      exactly_when
      (((blocks_refusal false sheet).number ≡ 0) × FirstAt (foreign_number plan sheet) (blocks_in sheet) 0 16 k)
  unfolding sheet_refusal
  sixteen_exactly k = (
    λ e.
        let o =
        past_file (blocks_refusal false sheet).number (blocks_refusal false sheet).place 16 k _ (most false sheet) e
        (inl (omega arith)) in
        (o.0, first_is (foreign_number plan sheet) (blocks_in sheet) 0 15 k o.1),
    λ h.
        sym (or_after (blocks_refusal false sheet).number (blocks_refusal false sheet).place _ (omega (arith, h.0)))
        ∙ is_first (foreign_number plan sheet) (blocks_in sheet) 0 15 k h.1,
  )

-- The plan's refusal, then the sheet's, by their numbers.
of_plan : (x q y z n k : ℕ) → refused_by in_plan x q (refused_by in_sheet y z (in_plan 0 0)) ≡ in_plan (suc n) k
    → refused x q ≡ refused (suc n) k
unfolding refused_by
of_plan zero q zero z n k e = absurd (let d : ◌≡◌ {A = ℕ} 0 (suc n) = ap (λ (r : Located). r.number) e in omega arith)
of_plan zero q (suc y) z n k e = absurd (let d : ◌≡◌ {A = ℕ} 1 0 = ap (λ (r : Located). r.sheet) e in omega arith)
of_plan (suc x) q y z n k e = ap (λ (r : Located). refused r.number r.place) e

of_sheet : (x q y z n k : ℕ) → refused_by in_plan x q (refused_by in_sheet y z (in_plan 0 0)) ≡ in_sheet (suc n) k
    → (x ≡ 0) × (refused y z ≡ refused (suc n) k)
unfolding refused_by
of_sheet zero q zero z n k e = absurd (let d : ◌≡◌ {A = ℕ} 0 1 = ap (λ (r : Located). r.sheet) e in omega arith)
of_sheet zero q (suc y) z n k e = (refl, ap (λ (r : Located). refused r.number r.place) e)
of_sheet (suc x) q y z n k e = absurd (let d : ◌≡◌ {A = ℕ} 0 1 = ap (λ (r : Located). r.sheet) e in omega arith)

module _ (plan sheet : List ℕ) (n k : ℕ) where
  -- The plan's refusals come first.
  pub plan_first : (pair_refusal plan sheet ≡ in_plan (suc n) k) exactly_when (file_refusal plan ≡ refused (suc n) k)
  unfolding pair_refusal refused_by
  plan_first = (
    of_plan (file_refusal plan).number (file_refusal plan).place (sheet_refusal plan sheet).number
        (sheet_refusal plan sheet).place n k,
    λ e. rw e refl,
  )

  -- The sheet's come where the plan has none.
  pub sheet_second :
      (pair_refusal plan sheet ≡ in_sheet (suc n) k)
      exactly_when (((file_refusal plan).number ≡ 0) × (sheet_refusal plan sheet ≡ refused (suc n) k))
  unfolding pair_refusal refused_by
  sheet_second = (
    of_sheet (file_refusal plan).number (file_refusal plan).place (sheet_refusal plan sheet).number
        (sheet_refusal plan sheet).place n k,
    λ h. rw (h.0, h.1) refl,
  )
