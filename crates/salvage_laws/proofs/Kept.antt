-- Kept blocks, their new places, and the ids that they are asked for. Assumes nothing.
use mathlib.Core.Path.{◌≡◌, refl, sym, ap, ◌∙◌}
use mathlib.Core.Logic.{⊎_elim}
use mathlib.Core.Bool.{true, false, not}
use mathlib.Core.List.{List, [], ◌∷◌}
use Prim.Native.Nat.{ℕ, zero, suc, ◌<◌}
use native.Mathlib.Nat.{eq-or-lt_of_le}
use native.Mathlib.Omega.{arith}
use lib.ListN.{length, length-append, get_or-append}
use lib.Seq.{get_or-append_seam}
use lib.Dec.{eqb}
use borrow.Author.Tests.{eq-eqb, eqb-true, not-false}
use Rattle.lists.specs.Exactly.{◌exactly_when◌}
use Rattle.lists.specs.Places.{nth}
use Rattle.plan.specs.Ranges.{guest_ok}
use Rattle.plan.specs.Order.{new_id}
use Rattle.block.specs.Reading.{guest_of}
use Rattle.blockfile.specs.File.{block_at, id_at}
use Rattle.salvage.specs.Keeping.{new_among, kept_places, drop_number, new_place}
use Rattle.salvage.specs.Fates.{fate_by, fate}
use Rattle.salvage_laws.specs.Causes.{SeenKept}
use Rattle.lists.proofs.All.{and_right, all_at, all_by, all_false, all_fails}
use Rattle.salvage.proofs.Keeping.{kept_on, dropped_on, passing, kept_in_lem}

-- The number that the list says of a block is the one that it is dropped by.
by_number : (x place : ℕ) → (fate_by x place).number ≡ x
unfolding fate_by
by_number zero place = refl
by_number (suc x) place = refl

pub fate_number : (s : List ℕ) (k : ℕ) → (fate s k).number ≡ drop_number s k
fate_number s k = by_number (drop_number s k) (new_place s k)

-- A kept block's place is the new one.
by_place : (x place : ℕ) → x ≡ 0 → fate_by x place ≡ record { number = 0; place = place }
unfolding fate_by
by_place x place e = rw e refl

pub fate_kept : (s : List ℕ) (k : ℕ) → drop_number s k ≡ 0 → fate s k ≡ record { number = 0; place = new_place s k }
fate_kept s k e = by_place (drop_number s k) (new_place s k) e

-- A kept block is found at its new place.
pub record There (s : List ℕ) (n k : ℕ) : Type 0 where
  pub within : new_place s k < new_place s n
  pub source : nth (kept_places s n) (new_place s k) ≡ k

pub there : (s : List ℕ) (n k : ℕ) → k < n → drop_number s k ≡ 0 → There s n k
there s zero k l e = absurd (omega arith)
there s (suc n) k l e =
    ⊎_elim (λ (q : k ≡ n). last k q e) (λ (m : k < n). by (drop_number s n) refl (there s n k m e))
    (eq-or-lt_of_le {n = k} {m = n} (omega arith))
  where
    last : (k : ℕ) → k ≡ n → drop_number s k ≡ 0 → There s (suc n) k
    last k q e =
        let d : drop_number s n ≡ 0 = rw q at e in
        let o = kept_on s n d in
        rw q record {
          within = omega (arith, ap length o, length-append (kept_places s n) (n ∷ []));
          source = rw o (get_or-append_seam (kept_places s n) n [] 0);
        }

    by : (x : ℕ) → drop_number s n ≡ x → There s n k → There s (suc n) k
    by zero d t =
        let o = kept_on s n d in
        record {
          within = omega (arith, t.within, ap length o, length-append (kept_places s n) (n ∷ []));
          source = rw o (get_or-append (kept_places s n) (n ∷ []) 0 (new_place s k) t.within ∙ t.source);
        }
    by (suc x) d t =
        let o = dropped_on s n (omega arith) in
        record { within = rw o t.within; source = rw o t.source }

-- The id is not new exactly when an earlier kept block has it.
pub new_fails : (s : List ℕ) (k : ℕ) → (new_among s (kept_places s k) k ≡ false) exactly_when SeenKept s k
unfolding new_among
new_fails s k = (
  λ e.
      let o = all_false _ (new_place s k) e in
      let i = kept_in_lem s k o.0 o.1 in (
        nth (kept_places s k) o.0,
        (
          i.below,
          (
            fate_number s (nth (kept_places s k) o.0) ∙ i.passes,
            eqb-true _ _ (not-false (eqb (id_at s (nth (kept_places s k) o.0)) (id_at s k)) o.2),
          ),
        ),
      ),
  λ o.
      let t = there s k o.0 o.1.0 (sym (fate_number s o.0) ∙ o.1.1.0) in
      sym (all_fails _ (new_place s k) (new_place s o.0) t.within
      (rw (t.source, eq-eqb (id_at s o.0) (id_at s k) o.1.1.1) refl)),
)

-- Ids of kept blocks differ: the test of ids passes for the blocks that moved up.
pub ids_new : (s : List ℕ) (n j : ℕ) → j < new_place s n → new_id (λ i. id_at s (nth (kept_places s n) i)) j ≡ true
unfolding new_id new_among
ids_new s n j l =
    let i = kept_in_lem s n j l in
    let k = nth (kept_places s n) j in
    let g = guest_ok (guest_of (block_at s k)) in
    let h = and_right g (new_among s (kept_places s k) k) (passing s k i.passes).heads in
    all_by _ j (λ m b.
    rw (i.before m b) at
    (all_at (λ q. not (eqb (id_at s (nth (kept_places s k) q)) (id_at s k))) (new_place s k) m (omega (arith, i.place)) h))
