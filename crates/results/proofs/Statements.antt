-- P10, a statement of finished jobs. `plan` is a plan's bytes and `(read_of plan).plan` its records; `statementAfter plan
-- logs s` is the statement after a call for each of these logs, from the running statement s on, and `countedEntries` are
-- the entries of the blocks that these calls took. A block that is passed over, and a call that is refused, add none.
use Rattle.std.specs.Prelude.{Ok}
use mathlib.Core.Path.{◌≡◌}
use mathlib.Core.Bool.{true}
use mathlib.Core.Logic.{◌≢◌}
use mathlib.Core.List.{List, [], ◌++◌}
use Prim.Native.Nat.{ℕ, ◌+◌, ◌%◌, ◌≤◌}
use lib.ListN.{length}
use Rattle.lists.specs.Places.{nth}
use Rattle.words.specs.Bytes.{Bytes}
use Rattle.plan.specs.Place.{has_guest, has_task}
use Rattle.block.specs.Layout.{block_size}
use Rattle.blockfile.specs.File.{blocks_in}
use Rattle.planfile.specs.Records.{read_of}
use Rattle.logblock.specs.declared.Entries.{Entries}
use Rattle.logblock.specs.Reading.{own_number}
use Rattle.logblock.specs.Writing.{log_number, log_of}
use Rattle.verdict.specs.declared.TaskVerdict.TheVariants.{Met}
use Rattle.verdict.specs.Quoted.{Quoted}
use Rattle.verdict.specs.Verdict.{task_verdict}
use Rattle.statement.specs.declared.Statement.{Statement}
use Rattle.statement.specs.Lines.{Lined, margins_at, empty, statement_ok}
use Rattle.statement.specs.Call.{stated}
use Rattle.statement_laws.specs.Cut.{together}
use Rattle.statement_laws.specs.Fits.{SumsFit}
use Rattle.statement_laws.specs.LineSays.{LineSays, task_line, TaskSays, NoTasks}
use Rattle.statement_laws.specs.Taken.{statement_after, counted_entries, counted_blocks}
use Rattle.statement_laws.specs.Told.{EachTold, told_margins}
use Rattle.logblock_laws.specs.Entries.{JobsInTypes, ReadBack, entries_in}
use Rattle.logblock_laws.specs.Table.{LogInBytes}
use Rattle.history.specs.Calls.{CanStart}
use Rattle.logblock_laws.proofs.Back as back
use Rattle.logblock_laws.proofs.Only as only
use Rattle.logblock_laws.proofs.Table as table
use Rattle.statement_laws.proofs.Counts as counts
use Rattle.statement_laws.proofs.Cut as cuts
use Rattle.statement_laws.proofs.Never14 as ranges
use Rattle.statement_laws.proofs.Told as telling

module _ (plan : List ℕ) (logs : List (List ℕ)) where
  -- From the empty statement on, over any calls with one plan, the line of each task says of the entries that name it
  -- how many they are, their greatest age, how many are past the deadline, and the exact sum of their margins.
  pub statement_counts :
      (guest task : ℕ)
      → has_guest (read_of plan).plan guest ≡ true
      → has_task (read_of plan).plan guest task ≡ true
      → TaskSays (read_of plan).plan guest task (statement_after plan logs empty) (counted_entries plan logs empty)
  statement_counts = counts.statement_counts plan logs

  -- A line that is no task's stays as it was, at zeros.
  pub other_lines :
      (k deadline : ℕ) → NoTasks (read_of plan).plan k → LineSays (statement_after plan logs empty) k deadline []
  other_lines = counts.other_lines plan logs

  -- The blocks counted are those that the calls took.
  pub blocks_count : (s : Statement) → (statement_after plan logs s).blocks ≡ s.blocks + counted_blocks plan logs s
  blocks_count = counts.blocks_count plan logs

  module _ (s : Statement) (lined : Lined s) (ok : statement_ok s ≡ true) where
    -- A statement that the calls made is never refused as 14, with whatever plan and log it is handed on.
    pub never_14 : (other log : List ℕ) → (stated (statement_after plan logs s) other log).refusal.number ≢ 14
    never_14 = ranges.never_14 plan logs s lined ok

    -- Nothing in it overflows: each sum fits 64 bits with its sign, each other number 32.
    pub sums_fit : SumsFit (statement_after plan logs s)
    sums_fit = ranges.sums_fit plan logs s lined ok

  -- The empty statement is such a one.
  pub never_14_from_empty :
      (other log : List ℕ) → (stated (statement_after plan logs empty) other log).refusal.number ≢ 14
  never_14_from_empty = ranges.never_14_from_empty plan logs

  -- What makes a statement worth having. Let each entry that was counted be a finish that the dispatcher told, in some
  -- history from a fresh start of the plan.
  module _ (can : CanStart (read_of plan).plan)
      (told : EachTold (read_of plan).plan (counted_entries plan logs empty)) (id number R : ℕ) where
    -- The longest age of a task that is quoted R is at most R.
    pub longest_within_R :
        Quoted (read_of plan).plan id number R
        → nth (statement_after plan logs empty).longest (task_line (read_of plan).plan id number) ≤ R
    longest_within_R = telling.longest_within_R plan logs can told id number R

    -- The sum in its line is that of the margins that the dispatcher told.
    pub sum_as_told :
        Quoted (read_of plan).plan id number R
        → margins_at (statement_after plan logs empty) (task_line (read_of plan).plan id number)
        ≡ told_margins (read_of plan).plan id number (counted_entries plan logs empty) told
    sum_as_told = telling.sum_as_told plan logs can told id number R

    -- A task that is met has none late.
    pub met_none_late :
        task_verdict (read_of plan).plan id number ≡ Ok (Met R)
        → nth (statement_after plan logs empty).late (task_line (read_of plan).plan id number) ≡ 0
    met_none_late = telling.met_none_late plan logs can told id number R

-- A log cut between blocks: the outcome of the whole is that of its two parts told as one, with the same statement, as
-- many passed over, and the first of them at its position in the whole.
module _ (s : Statement) (lined : Lined s) (plan a b : List ℕ) (wholeA : length a % block_size ≡ 0)
    (wholeB : length b % block_size ≡ 0) where
  pub cut_whole :
      stated s plan (a ++ b) ≡ together (blocks_in a) (stated s plan a) (stated (stated s plan a).statement plan b)
  cut_whole = cuts.cut_whole s lined plan a b wholeA wholeB

  pub cut_anywhere : (stated (stated s plan a).statement plan b).statement ≡ (stated s plan (a ++ b)).statement
  cut_anywhere = cuts.cut_anywhere s lined plan a b wholeA wholeB

-- Log blocks read back as written: the writer's block has 512 bytes, is refused by no number, and says the same jobs.
pub log_back : (es : Entries) (size : ℕ) → JobsInTypes es → log_number es size ≡ 0 → ReadBack es
log_back = back.log_back

-- The only log blocks that pass by themselves are those that the writer would write.
pub log_only : (b : List ℕ) → length b ≡ block_size → Bytes b → own_number b ≡ 0 → log_of (entries_in b) ≡ b
log_only = only.log_only

-- P10's lines of a log block, in bytes.
pub log_in_bytes : (b : List ℕ) → Bytes b → LogInBytes b
log_in_bytes = table.log_in_bytes
