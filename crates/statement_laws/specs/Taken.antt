-- Calls one after the other against one plan: the statement after them, and the blocks and entries that they took.
use Rattle.std.specs.Prelude.{List, [], ◌∷◌, ◌++◌, ℕ, zero, suc, ◌+◌}
use Rattle.plan.specs.declared.Plan.{Plan}
use Rattle.blockfile.specs.File.{block_at, blocks_in}
use Rattle.planfile.specs.Records.{read_of}
use Rattle.logblock.specs.declared.Entry.{Entry}
use Rattle.statement.specs.declared.Statement.{Statement}
use Rattle.statement.specs.Log.{passed_by}
use Rattle.statement.specs.Call.{stated}
use Rattle.statement_laws.specs.Entries.{entries_of}

-- The entries that a block adds, by the number that it is passed over by: only a taken block adds its own.
unfoldable pub added_by : (number : ℕ) → (block : List ℕ) → List Entry
added_by zero b = entries_of b
added_by (suc number) b = []

-- One for a taken block, none for one that is passed over.
unfoldable pub took_by : (number : ℕ) → ℕ
took_by zero = 1
took_by (suc number) = 0

-- The entries of those of the first n blocks of a log that are taken.
unfoldable pub taken_entries : Plan → (log : List ℕ) → Statement → ℕ → List Entry
taken_entries p log s zero = []
taken_entries p log s (suc n) = taken_entries p log s n ++ added_by (passed_by p log s n) (block_at log n)

-- How many of the first n blocks of a log are taken.
unfoldable pub taken_blocks : Plan → (log : List ℕ) → Statement → ℕ → ℕ
taken_blocks p log s zero = 0
taken_blocks p log s (suc n) = taken_blocks p log s n + took_by (passed_by p log s n)

-- The entries that a call counts, by the number that the whole call is refused by: a refused one counts none.
unfoldable pub entries_by : (number : ℕ) → Statement → (plan log : List ℕ) → List Entry
entries_by zero s plan log = taken_entries (read_of plan).plan log s (blocks_in log)
entries_by (suc number) s plan log = []

-- The blocks that a call counts, by the number that the whole call is refused by: a refused one counts none.
unfoldable pub blocks_by : (number : ℕ) → Statement → (plan log : List ℕ) → ℕ
blocks_by zero s plan log = taken_blocks (read_of plan).plan log s (blocks_in log)
blocks_by (suc number) s plan log = 0

-- The statement after a call for each of these logs, in order, all with one plan's bytes.
unfoldable pub statement_after : (plan : List ℕ) → (logs : List (List ℕ)) → Statement → Statement
statement_after plan [] s = s
statement_after plan (log ∷ logs) s = statement_after plan logs (stated s plan log).statement

-- The entries of the blocks that these calls took.
unfoldable pub counted_entries : (plan : List ℕ) → (logs : List (List ℕ)) → Statement → List Entry
counted_entries plan [] s = []
counted_entries plan (log ∷ logs) s =
    entries_by (stated s plan log).refusal.number s plan log
    ++ counted_entries plan logs (stated s plan log).statement

-- How many blocks these calls took.
unfoldable pub counted_blocks : (plan : List ℕ) → (logs : List (List ℕ)) → Statement → ℕ
counted_blocks plan [] s = 0
counted_blocks plan (log ∷ logs) s =
    blocks_by (stated s plan log).refusal.number s plan log
    + counted_blocks plan logs (stated s plan log).statement
