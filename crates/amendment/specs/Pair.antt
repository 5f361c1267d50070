-- The pair of a standing plan and an amendment sheet: 1 to 8 blocks in any order, each with its guest's place in the
-- plan. The refusals of a pair, in their order.
use Rattle.std.specs.Prelude.{Bool, false, List, [], ◌∷◌, ℕ, zero, suc, eqb, Option, Some, None, Result, Ok, Err}
use Rattle.lists.specs.Refusals.{refusal, ◌or_refuse◌}
use Rattle.plan.specs.declared.Refusal.{Refusal}
use Rattle.plan.specs.First.{or_else, first_refused, refuse_or}
use Rattle.block.specs.Reading.{place_in}
use Rattle.blockfile.specs.File.{block_at, id_at, blocks_in, blocks_refusal, file_refusal, first_with}
use Rattle.amendment.specs.declared.Located.{Located}

-- A number and a place in the plan.
abbrev pub in_plan : (number place : ℕ) → Located
in_plan number place = record { number = number; place = place; sheet = 0 }

-- A number and a position in the sheet.
abbrev pub in_sheet : (number place : ℕ) → Located
in_sheet number place = record { number = number; place = place; sheet = 1 }

-- Whether a search found that place.
unfoldable pub is_found_at : Option ℕ → ℕ → Bool
is_found_at (Some k) place = eqb k place
is_found_at None place = false

-- Passes 16: the plan has a guest with the id of the sheet's block k, and the block's place is that guest's.
abbrev pub known_at : (plan sheet : List ℕ) → ℕ → Bool
known_at plan sheet k = is_found_at (first_with plan (id_at sheet k)) (place_in (block_at sheet k))

-- The number that the sheet's block k is refused by once all blocks were read.
unfoldable pub foreign_number : (plan sheet : List ℕ) → ℕ → ℕ
foreign_number plan sheet k = refusal (known_at plan sheet k or_refuse 16 ∷ [])

-- The sheet's refusal: 1, then block by block 2, 3 by the kind alone, 4, 5, 6; then, block by block, 16.
unfoldable pub sheet_refusal : (plan sheet : List ℕ) → Refusal
sheet_refusal plan sheet =
    or_else (blocks_refusal false sheet).number (blocks_refusal false sheet).place
    (first_refused (foreign_number plan sheet) (blocks_in sheet) 0)

-- The pair's refusal: the plan's, then the sheet's; number 0 for none.
unfoldable pub pair_refusal : (plan sheet : List ℕ) → Located
pair_refusal plan sheet = refuse_or in_plan (file_refusal plan) (refuse_or in_sheet (sheet_refusal plan sheet) (in_plan 0 0))

-- A pair's refusal, or the answer where its number is 0.
abbrev pub located_by : {A : Type 0} → (number place sheet : ℕ) → A → Result A Located
located_by zero place sheet answer = Ok answer
located_by (suc n) place sheet answer = Err (record { number = suc n; place = place; sheet = sheet })

abbrev pub unless_located : {A : Type 0} → Located → A → Result A Located
unless_located r answer = located_by r.number r.place r.sheet answer
