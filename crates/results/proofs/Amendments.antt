-- P6: a standing plan and an amendment sheet, both lent bytes. `replaced plan sheet` is the plan's bytes with the
-- sheet's blocks put at their places; a pair is `Fine` where its refusal has number 0.
use mathlib.Core.Path.{◌≡◌}
use mathlib.Core.Bool.{true, false}
use mathlib.Core.List.{List}
use Prim.Native.Nat.{ℕ, suc, ◌≤◌, ◌<◌}
use lib.ListN.{length}
use Rattle.lists.specs.Exactly.{◌exactly_when◌}
use Rattle.plan.specs.First.{refused, fine}
use Rattle.plan.specs.Order.{plan_refusal}
use Rattle.blockfile.specs.File.{id_at, blocks_in, size_ok, blocks_refusal, file_refusal}
use Rattle.planfile.specs.Records.{read_of}
use Rattle.planfile.specs.Finder.{found}
use Rattle.planfile_laws.specs.Exact.{FirstAt}
use Rattle.amendment.specs.Pair.{in_plan, in_sheet, foreign_number, sheet_refusal, pair_refusal}
use Rattle.amendment.specs.Amended.{amended}
use Rattle.amendment.specs.Finder.{pair_place, pair_found}
use Rattle.amendment_laws.specs.Replaced.{Fine, replaced, AnsweredAs, OwnBlocks}
use Rattle.amendment_laws.specs.Causes.{HasId, Foreign}
use Rattle.amendment_laws.proofs.Answers as answers
use Rattle.amendment_laws.proofs.Exact as exact
use Rattle.amendment_laws.proofs.Found as finder
use Rattle.amendment_laws.proofs.Own as own

module _ (plan sheet : List ℕ) where
  -- The replaced bytes read as the amended plan.
  pub reads_as : Fine plan sheet → read_of (replaced plan sheet) ≡ record { refusal = fine; plan = amended plan sheet }
  reads_as = answers.reads_as plan sheet

  -- The amended plan's records are in order, so that no answer is refused for them.
  pub in_order : Fine plan sheet → plan_refusal (amended plan sheet) ≡ fine
  in_order = answers.in_order plan sheet

  -- Verdicts, acceptance and smallest capacities of the pair are those of the plan with the blocks replaced.
  pub answered_as : Fine plan sheet → AnsweredAs plan sheet (read_of (replaced plan sheet)).plan
  answered_as = answers.as_replaced plan sheet

  -- Found is the block in those bytes.
  pub found_as : Fine plan sheet → (id : ℕ) → pair_found plan sheet id ≡ found (replaced plan sheet) id
  found_as = finder.found_as plan sheet

-- A sheet of the plan's own blocks.
module _ (plan sheet : List ℕ) (well : (file_refusal plan).number ≡ 0) (own-blocks : OwnBlocks plan sheet) where
  -- It changes no byte.
  pub own_bytes : Fine plan sheet → replaced plan sheet ≡ plan
  own_bytes = own.own_bytes plan sheet well own-blocks

  -- It changes no answer.
  pub own_answers : Fine plan sheet → AnsweredAs plan sheet (read_of plan).plan
  own_answers = own.own_answers plan sheet well own-blocks

  -- It is not refused, if its length is right and no two of its blocks have one id.
  pub own_fine :
      size_ok (length sheet) ≡ true
      → ((i j : ℕ) → i < j → j < blocks_in sheet → id_at sheet i ≡ id_at sheet j → ⊥)
      → Fine plan sheet
  own_fine = own.own_fine plan sheet well own-blocks

-- When each refusal of a pair is given. Those of a plan's and of a sheet's blocks, 1 to 6, stand in Causes.
module _ (plan sheet : List ℕ) where
  -- The plan's refusals come first.
  pub plan_first :
      (n k : ℕ)
      → (pair_refusal plan sheet ≡ in_plan (suc n) k) exactly_when (file_refusal plan ≡ refused (suc n) k)
  plan_first = exact.plan_first plan sheet

  -- The sheet's come where the plan has none; their place is the position in the sheet.
  pub sheet_second :
      (n k : ℕ)
      → (pair_refusal plan sheet ≡ in_sheet (suc n) k)
      exactly_when (((file_refusal plan).number ≡ 0) × (sheet_refusal plan sheet ≡ refused (suc n) k))
  sheet_second = exact.sheet_second plan sheet

  -- 1 to 6 of the sheet are those of reading its blocks, where places do not count.
  pub sheet_exactly :
      (n k : ℕ)
      → suc n ≤ 6
      → (sheet_refusal plan sheet ≡ refused (suc n) k) exactly_when (blocks_refusal false sheet ≡ refused (suc n) k)
  sheet_exactly = exact.sheet_exactly plan sheet

  -- 16 at position k: all blocks of the sheet are read, and block k is the first that is of no guest of the plan.
  pub sixteen_exactly :
      (k : ℕ)
      → (sheet_refusal plan sheet ≡ refused 16 k)
      exactly_when
      (((blocks_refusal false sheet).number ≡ 0) × FirstAt (foreign_number plan sheet) (blocks_in sheet) 0 16 k)
  sixteen_exactly = exact.sixteen_exactly plan sheet

  -- Block k is of no guest of the plan: its id is not in the plan, or its place is not its guest's.
  pub foreign_exactly :
      (k : ℕ)
      → (file_refusal plan).number ≡ 0
      → (foreign_number plan sheet k ≡ 16) exactly_when Foreign plan sheet k
  foreign_exactly = exact.foreign_exactly plan sheet

-- When the finder's companion says what, for a pair that is not refused.
module _ (plan sheet : List ℕ) (ok : Fine plan sheet) (id : ℕ) where
  -- In the sheet at position j: block j of the sheet has the id.
  pub in_sheet_exactly :
      (j : ℕ) → (pair_place plan sheet id ≡ in_sheet 0 j) exactly_when ((j < blocks_in sheet) × (id_at sheet j ≡ id))
  in_sheet_exactly = finder.in_sheet_exactly plan sheet ok id

  -- In the plan at place k: no block of the sheet has the id, and block k of the plan has it.
  pub in_plan_exactly :
      (k : ℕ)
      → (pair_place plan sheet id ≡ in_plan 0 k)
      exactly_when ((HasId sheet id → ⊥) × ((k < blocks_in plan) × (id_at plan k ≡ id)))
  in_plan_exactly = finder.in_plan_exactly plan sheet ok id

  -- 7: the plan has no guest of that id.
  pub seven_exactly : (pair_place plan sheet id ≡ in_plan 7 0) exactly_when (HasId plan id → ⊥)
  seven_exactly = finder.seven_exactly plan sheet ok id
