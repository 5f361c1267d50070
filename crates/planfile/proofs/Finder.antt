-- How the code comes to the block found, and that it lies within the bytes. Assumes nothing.
use Rattle.std.specs.Prelude.{Option, Some, None}
use mathlib.Core.Path.{◌≡◌, refl, sym, ap, ◌∙◌}
use mathlib.Core.Bool.{Bool}
use mathlib.Core.List.{List, []}
use Prim.Native.Nat.{ℕ, zero, suc, ◌≤◌, ◌<◌}
use native.Mathlib.Omega.{arith}
use lib.Dec.{eqb}
use Rattle.plan.specs.declared.Refusal.{Refusal}
use Rattle.std.specs.Option.{ok_or}
use Rattle.plan.specs.First.{or_else, refused, unless_refused}
use Rattle.blockfile.specs.File.{block_at, id_at, blocks_in, file_refusal, first_with}
use Rattle.planfile.specs.Finder.{place_or_seven, found_place, part_by, found}
use Rattle.lists.proofs.Search.{Says, least_says}
use Rattle.plan.proofs.First.{refused_here, or_after}

-- No number in the end, so none here and none after.
or_none : (n k : ℕ) (after : Refusal) → (or_else n k after).number ≡ 0 → (n ≡ 0) × (or_else n k after ≡ after)
unfolding or_else
or_none zero k after e = (refl, refl)
or_none (suc n) k after e = absurd (omega arith)

-- A refusal hands back nothing.
part_none : (n k : ℕ) (s : List ℕ) → 0 < n → [] ≡ part_by n k s
unfolding part_by
part_none zero k s h = absurd (omega arith)
part_none (suc n) k s h = refl

module _ (s : List ℕ) (id : ℕ) where
  -- Where reading is refused, finding is.
  pub place_refused : (r : Refusal) → r ≡ file_refusal s → 0 < r.number → r ≡ found_place s id
  unfolding found_place
  place_refused r e h = rw (← e) (refused_here r.number r.place (place_or_seven (first_with s id)) h)

  -- Reading is not refused: the place is given, or 7.
  pub place_found : (r q : Refusal) → r ≡ file_refusal s → r.number ≤ 0 → q ≡ place_or_seven (first_with s id)
      → q ≡ found_place s id
  unfolding found_place
  place_found r q e h p = p ∙ rw (← e) (or_after r.number r.place (place_or_seven (first_with s id)) h)

  -- On a refusal nothing is handed back.
  pub found_none : (r : Refusal) → r ≡ found_place s id → 0 < r.number → [] ≡ found s id
  unfolding found
  found_none r e h = rw (← e) (part_none r.number r.place s h)

  -- Without a refusal the block at the place is handed back.
  pub found_there : (r : Refusal) → r ≡ found_place s id → r.number ≤ 0 → block_at s r.place ≡ found s id
  unfolding found part_by
  found_there r e h = let z : r.number ≡ 0 = omega arith in rw (← e, z) refl

-- A place that was found is one of the blocks.
placed_below : (p : ℕ → Bool) (n : ℕ) (f : Option ℕ) → Says p n 0 f → (place_or_seven f).number ≡ 0
    → (place_or_seven f).place < n
placed_below p n None w e = absurd (omega arith)
placed_below p n (Some y) w e = let h = w.high in omega arith

-- The place that was found is one of the blocks.
pub found_within : (s : List ℕ) (id : ℕ) → (found_place s id).number ≡ 0 → (found_place s id).place < blocks_in s
unfolding found_place
found_within s id e =
    let o = or_none (file_refusal s).number (file_refusal s).place (place_or_seven (first_with s id)) e in
    let z : (place_or_seven (first_with s id)).number ≡ 0 = ap (λ (r : Refusal). r.number) (sym o.1) ∙ e in
    let b : (place_or_seven (first_with s id)).place < blocks_in s =
    placed_below (λ k. eqb (id_at s k) id) (blocks_in s) (first_with s id)
    (least_says (λ k. eqb (id_at s k) id) (blocks_in s) 0) z in
    let q : (found_place s id).place ≡ (place_or_seven (first_with s id)).place = ap (λ (r : Refusal). r.place) o.1 in
    omega arith

-- What was found as a place, or refusal 7.
placed_or_seven : (f : Option ℕ) → ok_or f (refused 7 0) ≡ unless_refused (place_or_seven f) (place_or_seven f).place
placed_or_seven (Some k) = refl
placed_or_seven None = refl

-- Where reading is not refused, finding comes to that of the search.
pub found_or_seven : (s : List ℕ) (id : ℕ) → (file_refusal s).number ≡ 0
    → ok_or (first_with s id) (refused 7 0) ≡ unless_refused (found_place s id) (found_place s id).place
found_or_seven s id e =
    let q : place_or_seven (first_with s id) ≡ found_place s id =
    place_found s id (file_refusal s) _ refl (omega arith) refl in
    rw (← q) (placed_or_seven (first_with s id))
