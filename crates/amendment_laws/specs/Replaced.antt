-- The bytes of the plan with the sheet's blocks put at their places, and what is the same of a pair and of a plan.
use Rattle.std.specs.Prelude.{◌≡◌, List, ℕ, ◌<◌, eqb, Option}
use Rattle.lists.specs.Search.{least}
use Rattle.plan.specs.declared.Plan.{Plan}
use Rattle.block.specs.Reading.{place_in}
use Rattle.blockfile.specs.File.{block_at, blocks_in}
use Rattle.verdict.specs.Verdict.{guest_verdict, task_verdict, acceptance}
use Rattle.capacity.specs.Answer.{smallest_capacity}
use Rattle.blockfile.specs.Joined.{joined}
use Rattle.amendment.specs.Pair.{pair_refusal}
use Rattle.amendment.specs.Amended.{block_or}
use Rattle.amendment.specs.Verdict.{pair_guest_verdict, pair_task_verdict, pair_acceptance, pair_smallest}

-- A pair that is not refused.
abbrev pub Fine : (plan sheet : List ℕ) → Type 0
Fine plan sheet = (pair_refusal plan sheet).number ≡ 0

-- The first block of a sheet that says place k.
abbrev pub first_at : List ℕ → ℕ → Option ℕ
first_at sheet k = least (λ j. eqb (place_in (block_at sheet j)) k) (blocks_in sheet) 0

-- Block k once the sheet's blocks are put at the places that they say.
abbrev pub put_at : (plan sheet : List ℕ) → ℕ → List ℕ
put_at plan sheet k = block_or (first_at sheet k) sheet (block_at plan k)

-- The plan's bytes, with the sheet's blocks put at their places.
unfoldable pub replaced : (plan sheet : List ℕ) → List ℕ
replaced plan sheet = joined (put_at plan sheet) (blocks_in plan)

-- Each answer about the pair is the one about that plan.
pub record AnsweredAs (plan sheet : List ℕ) (q : Plan) : Type 0 where
  pub guest : (id : ℕ) → pair_guest_verdict plan sheet id ≡ guest_verdict q id
  pub task : (id number : ℕ) → pair_task_verdict plan sheet id number ≡ task_verdict q id number
  pub accepted : pair_acceptance plan sheet ≡ acceptance q
  pub capacity : (id : ℕ) → pair_smallest plan sheet id ≡ smallest_capacity q id

-- Each block of the sheet is one of the plan's own.
abbrev pub OwnBlocks : (plan sheet : List ℕ) → Type 0
OwnBlocks plan sheet =
    (j : ℕ) → j < blocks_in sheet → (k : ℕ) × ((k < blocks_in plan) × (block_at sheet j ≡ block_at plan k))
