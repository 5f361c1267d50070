-- How the code comes to the block found in a pair, and that it lies within its slice. Assumes nothing.
use Rattle.std.specs.Prelude.{Option, Some, None}
use mathlib.Core.Path.{◌≡◌, refl, ap, ◌∙◌}
use mathlib.Core.List.{List, []}
use Prim.Native.Nat.{ℕ, zero, suc, ◌≤◌, ◌<◌}
use native.Mathlib.Omega.{arith}
use Rattle.plan.specs.First.{refused_by}
use Rattle.blockfile.specs.File.{block_at, blocks_in, first_with}
use Rattle.amendment.specs.declared.Located.{Located}
use Rattle.amendment.specs.Pair.{pair_refusal}
use Rattle.amendment.specs.Finder.{standing, located_or, pair_place, part_in, pair_found}
use Rattle.plan.proofs.First.{number_refuses, number_passes}
use Rattle.blockfile.proofs.File.{found_at}

-- A refusal hands back nothing.
handed_none : (n w k : ℕ) (plan sheet : List ℕ) → 0 < n → [] ≡ part_in n w k plan sheet
unfolding part_in
handed_none zero w k plan sheet h = absurd (omega arith)
handed_none (suc n) w k plan sheet h = refl

handed_sheet : (n w k : ℕ) (plan sheet : List ℕ) → n ≤ 0 → 0 < w → block_at sheet k ≡ part_in n w k plan sheet
unfolding part_in
handed_sheet zero zero k plan sheet h l = absurd (omega arith)
handed_sheet zero (suc w) k plan sheet h l = refl
handed_sheet (suc n) w k plan sheet h l = absurd (omega arith)

handed_plan : (n w k : ℕ) (plan sheet : List ℕ) → n ≤ 0 → w ≤ 0 → block_at plan k ≡ part_in n w k plan sheet
unfolding part_in
handed_plan zero zero k plan sheet h l = refl
handed_plan zero (suc w) k plan sheet h l = absurd (omega arith)
handed_plan (suc n) w k plan sheet h l = absurd (omega arith)

-- Where no number is given in the end, none was given before.
located_none : (r after : Located) → (located_or r after).number ≡ 0 → located_or r after ≡ after
unfolding located_or refused_by
located_none r after e = go r.number e
  where
    at : (number place : ℕ) → Located
    at number place = record { number = number; place = place; sheet = r.sheet }

    go : (n : ℕ) → (refused_by at n r.place after).number ≡ 0 → refused_by at n r.place after ≡ after
    go zero e = refl
    go (suc n) e = absurd (omega arith)

module _ (plan sheet : List ℕ) (id : ℕ) where
  -- Where the pair is refused, finding is.
  pub place_refused : (r : Located) → r ≡ pair_refusal plan sheet → 0 < r.number → r ≡ pair_place plan sheet id
  unfolding pair_place located_or
  place_refused r e h = rw (← e) (number_refuses _ r.number r.place _ h)

  -- The pair is not refused: a place is given, or 7.
  pub place_stands : (r q : Located) → r ≡ pair_refusal plan sheet → r.number ≤ 0
      → q ≡ standing (first_with sheet id) (first_with plan id)
      → q ≡ pair_place plan sheet id
  unfolding pair_place located_or
  place_stands r q e h p = p ∙ rw (← e) (number_passes _ r.number r.place _ h)

  -- On a refusal nothing is handed back.
  pub found_none : (r : Located) → r ≡ pair_place plan sheet id → 0 < r.number → [] ≡ pair_found plan sheet id
  unfolding pair_found
  found_none r e h = rw (← e) (handed_none r.number r.sheet r.place plan sheet h)

  -- The sheet's block is handed back.
  pub found_in_sheet : (r : Located) → r ≡ pair_place plan sheet id → r.number ≤ 0 → 0 < r.sheet
      → block_at sheet r.place ≡ pair_found plan sheet id
  unfolding pair_found
  found_in_sheet r e h l = rw (← e) (handed_sheet r.number r.sheet r.place plan sheet h l)

  -- The plan's block is.
  pub found_in_plan : (r : Located) → r ≡ pair_place plan sheet id → r.number ≤ 0 → r.sheet ≤ 0
      → block_at plan r.place ≡ pair_found plan sheet id
  unfolding pair_found
  found_in_plan r e h l = rw (← e) (handed_plan r.number r.sheet r.place plan sheet h l)

  stands_within : (f g : Option ℕ) → first_with sheet id ≡ f → first_with plan id ≡ g → (standing f g).number ≡ 0
      → (0 < (standing f g).sheet → (standing f g).place < blocks_in sheet)
      × ((standing f g).sheet ≤ 0 → (standing f g).place < blocks_in plan)
  unfolding standing
  stands_within (Some j) g p q e = (λ l. (found_at sheet id j p).0, λ l. absurd (omega arith))
  stands_within None (Some k) p q e = (λ l. absurd (omega arith), λ l. (found_at plan id k q).0)
  stands_within None None p q e = absurd (omega arith)

  -- A place that was found is one of the blocks.
  pub found_within : (r : Located) → r ≡ pair_place plan sheet id → r.number ≤ 0
      → (0 < r.sheet → r.place < blocks_in sheet) × (r.sheet ≤ 0 → r.place < blocks_in plan)
  unfolding pair_place
  found_within r e h =
      let d = ap (λ (x : Located). x.number) e in
      let s = located_none (pair_refusal plan sheet) (standing (first_with sheet id) (first_with plan id)) (omega arith) in
      let z = ap (λ (x : Located). x.number) s in
      rw (e ∙ s) (stands_within (first_with sheet id) (first_with plan id) refl refl (omega arith))
