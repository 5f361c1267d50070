-- How the code comes to the blocks gone through. Assumes nothing.
use Rattle.std.proofs.Common.{◌≡◌, ℕ, zero, suc, ◌+◌, ◌<◌, ◌≤◌, List, [], ◌∷◌, ◌++◌, length, set, replicate, Ok, Err, sym, refl, ◌∙◌, add-one, arith}
use Rattle.lists.specs.Places.{nth}
use Rattle.lists.specs.Refusals.{unless_number}
use Rattle.plan.specs.Ranges.{most_guests}
use Rattle.salvage.specs.declared.Fate.{Fate}
use Rattle.salvage.specs.Keeping.{number_after, kept_places, drop_number, new_place}
use Rattle.salvage.specs.Fates.{fate_by, no_fate, fates_of}
use Rattle.lists.proofs.Refusals.{ok_number, err_number}
use Rattle.salvage.proofs.Keeping.{none_kept, kept_on, dropped_on, kept_in_lem, kept_most}
use Rattle.salvage.proofs.Fates.{no_fates, fates_next}

-- What stands once the first k blocks are gone through.
pub record Standing (s : List ℕ) (k : ℕ) (kept : List ℕ) (fates : List Fate) : Type 0 where
  pub places : kept ≡ kept_places s k
  pub list : fates ≡ fates_of s k

-- None is gone through yet.
pub standing_none : (s : List ℕ) → Standing s 0 [] (replicate most_guests no_fate)
standing_none s = record { places = sym (none_kept s); list = no_fates s }

-- A loop's turn.
module _ (s : List ℕ) (k : ℕ) {kept : List ℕ} {fates : List Fate} (t : Standing s k kept fates) where
  -- At most k places are kept, and each is one before k.
  pub few_places : length kept ≤ k
  few_places = rw t.places (kept_most s k)

  pub place_below : (j : ℕ) → j < length kept → nth kept j < k
  place_below j l = rw t.places (kept_in_lem s k j (rw t.places at l)).below

  module _ (h : k < most_guests) where
    -- Block k is kept.
    pub turn_kept :
        {w : Unit {0}} {place : ℕ}
        → place ≡ length kept
        → Ok w ≡ unless_number (number_after s kept k) (tt {0})
        → Standing s (k + 1) (kept ++ (k ∷ [])) (set fates k (record { number = 0; place = place }))
    unfolding fate_by
    turn_kept {place} l q =
        let z : drop_number s k ≡ 0 = rw t.places at (ok_number (number_after s kept k) q).0 in
        record {
          places = rw (add-one k, kept_on s k z, t.places) refl;
          list = fates_next s k fates (record { number = 0; place = place }) h t.list (rw (z, l, t.places) refl);
        }

    -- Block k is dropped.
    pub turn_dropped :
        {x : ℕ}
        → Err x ≡ unless_number (number_after s kept k) (tt {0})
        → Standing s (k + 1) kept (set fates k (record { number = x; place = 0 }))
    unfolding fate_by
    turn_dropped {x} q =
        let e = err_number (number_after s kept k) (tt {0}) q in
        let z : x ≡ drop_number s k = rw t.places at e.0 in
        record {
          places = rw (add-one k, dropped_on s k (omega (arith, e.1))) t.places;
          list =
              fates_next s k fates (record { number = x; place = 0 }) h t.list
              (dropped x (new_place s k) (omega (arith, e)) ∙ rw z refl);
        }
      where
        dropped : (x place : ℕ) → 0 < x → record { number = x; place = 0 } ≡ fate_by x place
        dropped zero place h = absurd (omega arith)
        dropped (suc x) place h = refl
