-- A plan's bytes read into records.
use Rattle.std.specs.Prelude.{List, ℕ, zero, suc}
use Rattle.plan.specs.declared.Plan.{Plan}
use Rattle.plan.specs.Records.{blank_plan}
use Rattle.blockfile.specs.File.{block_at, blocks_in, file_refusal}
use Rattle.blockfile.specs.Records.{records_of}
use Rattle.planfile.specs.declared.Reading.{Reading}

-- The plan where nothing is refused, else a plan of zeros.
unfoldable pub plan_by : (number : ℕ) → List ℕ → Plan
plan_by zero s = record { count = blocks_in s; guests = records_of (block_at s) (blocks_in s) }
plan_by (suc r) s = blank_plan

-- A plan's bytes read.
unfoldable pub read_of : List ℕ → Reading
read_of s = record { refusal = file_refusal s; plan = plan_by (file_refusal s).number s }
