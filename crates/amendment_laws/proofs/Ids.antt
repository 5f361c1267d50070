-- A pair that is not refused: the sheet's ids and places are those of guests of the plan, and the blocks that count
-- have the plan's ids. Assumes nothing.
use Rattle.std.specs.Prelude.{Option, Some, None}
use mathlib.Core.Path.{◌≡◌, refl, sym, ap, ◌∙◌}
use mathlib.Core.Bool.{Bool, true, false, false≢true}
use mathlib.Core.List.{List}
use Prim.Native.Nat.{ℕ, ◌<◌}
use native.Mathlib.Decide.{dec_lt}
use native.Mathlib.Omega.{arith}
use lib.Dec.{eqb}
use borrow.Author.Tests.{eq-eqb, eqb-true}
use Rattle.plan.specs.Order.{new_id}
use Rattle.block.specs.Reading.{id_in, place_in, own_place}
use Rattle.blockfile.specs.File.{block_at, id_at, blocks_in, number_at, file_refusal, first_with}
use Rattle.amendment.specs.Pair.{is_found_at, known_at}
use Rattle.amendment.specs.Amended.{block_or, amended_block}
use Rattle.amendment_laws.specs.Replaced.{put_at}
use Rattle.lists.proofs.Search.{least_ext}
use Rattle.block.proofs.Reading.{BlockIn, block_in}
use Rattle.blockfile.proofs.File.{FileIn, found_at}
use Rattle.planfile_laws.proofs.Exact.{apart}

-- A search that found a place found that one.
found_there : (f : Option ℕ) (place : ℕ) → is_found_at f place ≡ true → f ≡ Some place
unfolding is_found_at
found_there (Some k) place e = ap Some (eqb-true k place e)
found_there None place e = absurd (false≢true e)

-- No two places of a plan have one id.
pub one_place : (s : List ℕ) → (file_refusal s).number ≡ 0 → (j k : ℕ) → j < blocks_in s → k < blocks_in s
    → id_at s j ≡ id_at s k
    → j ≡ k
one_place s e j k l m q =
    elim (dec_lt j k) [
      | yes h ↦ absurd (apart true s e j k h m q)
      | no h ↦ elim (dec_lt k j) [
        | yes i ↦ absurd (apart true s e k j i l (sym q))
        | no i ↦ omega arith
      ]
    ]

-- A block of a plan passes every test.
pub plan_block : (s : List ℕ) → FileIn s → (k : ℕ) → k < blocks_in s
    → BlockIn (block_at s k) (own_place (block_at s k) k) (new_id (id_at s) k)
unfolding number_at
plan_block s i k l = block_in _ _ _ (i.blocks k l)

-- The block that counts for a guest has that guest's id.
id_or : (sheet own : List ℕ) (id : ℕ) (f : Option ℕ) → first_with sheet id ≡ f → id_in own ≡ id
    → id_in (block_or f sheet own) ≡ id
unfolding block_or
id_or sheet own id (Some j) e d = (found_at sheet id j e).1
id_or sheet own id None e d = d

pub same_id : (plan sheet : List ℕ) (k : ℕ) → id_in (amended_block plan sheet k) ≡ id_at plan k
same_id plan sheet k = id_or sheet (block_at plan k) (id_at plan k) (first_with sheet (id_at plan k)) refl refl

module _ (plan sheet : List ℕ) (ok : (file_refusal plan).number ≡ 0)
    (known : (j : ℕ) → j < blocks_in sheet → known_at plan sheet j ≡ true) where
  -- The place that a block of the sheet says is one of the plan's, and has the block's id.
  pub its_place : (j : ℕ) → j < blocks_in sheet
      → (place_in (block_at sheet j) < blocks_in plan) × (id_at plan (place_in (block_at sheet j)) ≡ id_at sheet j)
  its_place j l = found_at plan (id_at sheet j) (place_in (block_at sheet j)) (found_there _ _ (known j l))

  -- A block of the sheet says place k exactly when it has the id there.
  agree : (k : ℕ) → k < blocks_in plan → (j : ℕ) → j < blocks_in sheet
      → eqb (place_in (block_at sheet j)) k ≡ eqb (id_at sheet j) (id_at plan k)
  agree k l j m =
      let o = its_place j m in
      go (eqb (place_in (block_at sheet j)) k) (eqb (id_at sheet j) (id_at plan k)) refl refl
      (λ e. eq-eqb _ _ (sym o.1 ∙ ap (id_at plan) (eqb-true (place_in (block_at sheet j)) k e)))
      (λ e.
      eq-eqb _ _
      (one_place plan ok (place_in (block_at sheet j)) k o.0 l (o.1 ∙ eqb-true (id_at sheet j) (id_at plan k) e)))
    where
      go : (a b : Bool) → eqb (place_in (block_at sheet j)) k ≡ a → eqb (id_at sheet j) (id_at plan k) ≡ b
          → (eqb (place_in (block_at sheet j)) k ≡ true → eqb (id_at sheet j) (id_at plan k) ≡ true)
          → (eqb (id_at sheet j) (id_at plan k) ≡ true → eqb (place_in (block_at sheet j)) k ≡ true)
          → eqb (place_in (block_at sheet j)) k ≡ eqb (id_at sheet j) (id_at plan k)
      go true b p q f g = p ∙ sym (f p)
      go false true p q f g = g q ∙ sym q
      go false false p q f g = p ∙ sym q

  -- Put at their places or found by their ids: the same blocks.
  pub same_block : (k : ℕ) → k < blocks_in plan → put_at plan sheet k ≡ amended_block plan sheet k
  same_block k l =
      ap (λ (f : Option ℕ). block_or f sheet (block_at plan k))
      (least_ext _ _ (blocks_in sheet) 0 (λ j a b. agree k l j (omega arith)))
