-- How the code comes to a pair's refusal, and what a pair that is not refused says. Assumes nothing.
use mathlib.Core.Path.{◌≡◌, refl, sym, ap, ◌∙◌}
use mathlib.Core.Bool.{true, false}
use mathlib.Core.List.{List, []}
use Prim.Native.Nat.{ℕ, zero, suc, ◌≤◌, ◌<◌}
use native.Mathlib.Omega.{arith}
use Rattle.std.proofs.Common.{Ok, Err}
use Rattle.plan.specs.declared.Refusal.{Refusal}
use Rattle.plan.specs.Ranges.{most_guests}
use Rattle.plan.specs.First.{first_refused, refused_by}
use Rattle.blockfile.specs.File.{blocks_in, blocks_refusal, file_refusal}
use Rattle.amendment.specs.declared.Located.{Located}
use Rattle.amendment.specs.Pair.{in_plan, in_sheet, known_at, foreign_number, sheet_refusal, pair_refusal, located_by, unless_located}
use Rattle.lists.proofs.Refusals.{none_left, go_on, stop, passed}
use Rattle.plan.proofs.First.{refused_here, or_after, after_zero, none_refused, number_refuses, number_passes}
use Rattle.blockfile.proofs.File.{BlocksIn, blocks_in_lem, FileIn, file_in}

module _ (plan sheet : List ℕ) (k : ℕ) where
  -- The sheet's block k is of no guest of the plan.
  pub foreign : known_at plan sheet k ≡ false → 16 ≡ foreign_number plan sheet k
  unfolding foreign_number
  foreign e = sym (stop 16 [] e)

  -- It is of one.
  pub known : known_at plan sheet k ≡ true → 0 ≡ foreign_number plan sheet k
  unfolding foreign_number
  known e = sym (go_on 16 [] e ∙ none_left)

  known_by : foreign_number plan sheet k ≡ 0 → known_at plan sheet k ≡ true
  unfolding foreign_number
  known_by e = (passed (known_at plan sheet k) 16 [] (omega arith) e).0

module _ (plan sheet : List ℕ) where
  -- A block of the sheet is refused in the first pass.
  pub blocks_refused : (r : Refusal) → r ≡ blocks_refusal false sheet → 0 < r.number → r ≡ sheet_refusal plan sheet
  unfolding sheet_refusal
  blocks_refused r e h = rw (← e) (refused_here r.number r.place _ h)

  -- None is, and the second pass decides.
  pub blocks_passed : (r q : Refusal) → r ≡ blocks_refusal false sheet → r.number ≤ 0
      → q ≡ first_refused (foreign_number plan sheet) (blocks_in sheet) 0
      → q ≡ sheet_refusal plan sheet
  unfolding sheet_refusal
  blocks_passed r q e h p = p ∙ rw (← e) (or_after r.number r.place _ h)

  -- The plan is refused.
  pub plan_refused : (r : Refusal) → r ≡ file_refusal plan → 0 < r.number
      → in_plan r.number r.place ≡ pair_refusal plan sheet
  unfolding pair_refusal
  plan_refused r e h = rw (← e) (number_refuses in_plan r.number r.place _ h)

  -- The plan is not refused, the sheet is.
  pub sheet_refused : (r q : Refusal) → r ≡ file_refusal plan → r.number ≤ 0 → q ≡ sheet_refusal plan sheet
      → 0 < q.number
      → in_sheet q.number q.place ≡ pair_refusal plan sheet
  unfolding pair_refusal
  sheet_refused r q e h d l =
      rw (← e, ← d)
      (number_refuses in_sheet q.number q.place (in_plan 0 0) l ∙ number_passes in_plan r.number r.place _ h)

  -- Neither is.
  pub pair_fine : (r q : Refusal) → r ≡ file_refusal plan → r.number ≤ 0 → q ≡ sheet_refusal plan sheet
      → q.number ≤ 0
      → in_plan 0 0 ≡ pair_refusal plan sheet
  unfolding pair_refusal
  pair_fine r q e h d l =
      rw (← e, ← d)
      (number_passes in_sheet q.number q.place (in_plan 0 0) l ∙ number_passes in_plan r.number r.place _ h)

-- An outcome that a pair's refusal ends, or does not.
module _ {A : Type 0} (r : Located) where
  err_by : (n k w : ℕ) (v : A) {s : Located} → Err s ≡ located_by n k w v
      → (s ≡ record { number = n; place = k; sheet = w }) × (0 < n)
  err_by zero k w v e = absurd cc
  err_by (suc n) k w v e = (cc, omega arith)

  ok_by : (n k w : ℕ) {v p : A} → Ok p ≡ located_by n k w v → (n ≡ 0) × (p ≡ v)
  ok_by zero k w e = (refl, cc)
  ok_by (suc n) k w e = absurd cc

  by_err : (n k w : ℕ) (v : A) → 0 < n → Err (record { number = n; place = k; sheet = w }) ≡ located_by n k w v
  by_err zero k w v h = absurd (omega arith)
  by_err (suc n) k w v h = refl

  by_ok : (n k w : ℕ) (v : A) → n ≤ 0 → Ok v ≡ located_by n k w v
  by_ok zero k w v h = refl
  by_ok (suc n) k w v h = absurd (omega arith)

  pub err_says : (v : A) {s : Located} → Err s ≡ unless_located r v → (s ≡ r) × (0 < r.number)
  err_says v e = err_by r.number r.place r.sheet v e

  pub ok_says : {v p : A} → Ok p ≡ unless_located r v → (r.number ≡ 0) × (p ≡ v)
  ok_says e = ok_by r.number r.place r.sheet e

  pub err_located : (v : A) {s : Located} → s ≡ r → 0 < s.number → Err s ≡ unless_located r v
  err_located v {s} e h = rw e (by_err r.number r.place r.sheet v (rw e at h))

  pub ok_located : (v : A) → r.number ≤ 0 → Ok v ≡ unless_located r v
  ok_located v h = by_ok r.number r.place r.sheet v h

neither : (n k m j : ℕ) → (refused_by in_plan n k (refused_by in_sheet m j (in_plan 0 0))).number ≡ 0 → (n ≡ 0) × (m ≡ 0)
unfolding refused_by
neither zero k zero j e = (refl, refl)
neither zero k (suc m) j e = absurd (omega arith)
neither (suc n) k m j e = absurd (omega arith)

-- A pair that is not refused: a plan, blocks, and each of these of a guest of the plan.
pub record PairIn (p s : List ℕ) : Type 0 where
  pub plan : FileIn p
  pub sheet : BlocksIn false s
  pub known : (k : ℕ) → k < blocks_in s → known_at p s k ≡ true

module _ (plan sheet : List ℕ) (r : Located) (e : r ≡ pair_refusal plan sheet) (h : r.number ≤ 0) where
  both : ((file_refusal plan).number ≡ 0) × ((sheet_refusal plan sheet).number ≡ 0)
  unfolding pair_refusal
  both =
      let d = ap (λ (x : Located). x.number) e in
      neither (file_refusal plan).number (file_refusal plan).place (sheet_refusal plan sheet).number
      (sheet_refusal plan sheet).place (omega arith)

  passes :
      ((blocks_refusal false sheet).number ≡ 0)
      × ((first_refused (foreign_number plan sheet) (blocks_in sheet) 0).number ≡ 0)
  unfolding sheet_refusal
  passes = after_zero (blocks_refusal false sheet).number (blocks_refusal false sheet).place _ both.1

  -- The plan is not refused.
  pub plan_fine : (file_refusal plan).number ≡ 0
  plan_fine = both.0

  -- The sheet's blocks are not.
  pub blocks_fine : (blocks_refusal false sheet).number ≡ 0
  blocks_fine = passes.0

  pub pair_in : PairIn plan sheet
  pair_in = record {
    plan = file_in plan plan_fine;
    sheet = blocks_in_lem false sheet blocks_fine;
    known = λ k l.
        known_by plan sheet k
        (none_refused (foreign_number plan sheet) (blocks_in sheet) 0 passes.1 k (omega arith) (omega arith));
  }

  -- Neither has more blocks than a plan has guests, as making the amended plan asks.
  pub sizes : (blocks_in plan ≤ most_guests) × (blocks_in sheet ≤ most_guests)
  sizes =
      let p = pair_in.plan.size in
      let s = pair_in.sheet.size in
      (omega arith, omega arith)
