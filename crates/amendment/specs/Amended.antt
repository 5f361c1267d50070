-- The plan with the sheet's blocks in the place of its own.
use Rattle.std.specs.Prelude.{List, ℕ, Option, Some, None}
use Rattle.plan.specs.declared.Plan.{Plan}
use Rattle.blockfile.specs.File.{block_at, id_at, blocks_in, first_with}
use Rattle.blockfile.specs.Records.{records_of}

-- The block that was found in the sheet, or else the plan's own.
unfoldable pub block_or : Option ℕ → (sheet own : List ℕ) → List ℕ
block_or (Some j) sheet own = block_at sheet j
block_or None sheet own = own

-- The block that counts for the guest at place k of the plan: the sheet's if it has one for that guest, otherwise the
-- plan's.
abbrev pub amended_block : (plan sheet : List ℕ) → ℕ → List ℕ
amended_block plan sheet k = block_or (first_with sheet (id_at plan k)) sheet (block_at plan k)

-- The records of those blocks.
unfoldable pub amended : (plan sheet : List ℕ) → Plan
amended plan sheet = record { count = blocks_in plan; guests = records_of (amended_block plan sheet) (blocks_in plan) }
