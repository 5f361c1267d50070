-- A log added to the running statement. Refused whole: the plan's reading order, then 14, then 1.
use Rattle.std.specs.Prelude.{List, [], ◌∷◌, ℕ, zero, suc, ◌%◌, eqb, length}
use Rattle.lists.specs.Refusals.{refusal, ◌or_refuse◌}
use Rattle.plan.specs.declared.Plan.{Plan}
use Rattle.plan.specs.declared.Refusal.{Refusal}
use Rattle.plan.specs.First.{refused, fine, or_else}
use Rattle.block.specs.Layout.{block_size}
use Rattle.blockfile.specs.File.{blocks_in, file_refusal}
use Rattle.planfile.specs.Records.{read_of}
use Rattle.statement.specs.declared.Statement.{Statement}
use Rattle.statement.specs.declared.Stated.{Stated}
use Rattle.statement.specs.Lines.{statement_ok}
use Rattle.statement.specs.Log.{after_blocks, passed_in, first_passed}

-- The refusal of a whole call.
unfoldable pub call_refusal : Statement → (plan log : List ℕ) → Refusal
call_refusal s plan log =
    or_else (file_refusal plan).number (file_refusal plan).place
    (refused (refusal (statement_ok s or_refuse 14 ∷ eqb (length log % block_size) 0 or_refuse 1 ∷ [])) 0)

-- The outcome of a call on a log of n blocks that is not refused.
abbrev pub stated_over : Plan → (log : List ℕ) → (n : ℕ) → Statement → Stated
stated_over p log n s = record {
  refusal = fine;
  statement = after_blocks p log n s;
  passed = passed_in p log s n;
  position = (first_passed p log s n).place;
  number = (first_passed p log s n).number;
}

-- The outcome of a call that is refused: the statement comes back unchanged.
abbrev pub unstated : Refusal → Statement → Stated
unstated r s = record { refusal = r; statement = s; passed = 0; position = 0; number = 0 }

-- The outcome of a call by its number.
unfoldable pub stated_by : (number : ℕ) → Statement → (plan log : List ℕ) → Stated
stated_by zero s plan log = stated_over (read_of plan).plan log (blocks_in log) s
stated_by (suc number) s plan log = unstated (call_refusal s plan log) s

-- A call: the running statement, a plan's bytes and a log give the next statement.
unfoldable pub stated : Statement → (plan log : List ℕ) → Stated
stated s plan log = stated_by (call_refusal s plan log).number s plan log
