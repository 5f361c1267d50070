-- A statement at plan A: the two finishes of case 8, logged and stated. Assumes nothing.
use mathlib.Core.Path.{◌≡◌}
use mathlib.Core.List.{[], ◌∷◌}
use Prim.Native.Nat.{◌≤◌}
use lib.IntN.{pos}
use Rattle.lists.specs.Places.{nth}
use Rattle.planfile.specs.Records.{read_of}
use Rattle.planfile_laws.specs.File.{file_of}
use Rattle.history.specs.Calls.{releasing, running, play, answer_of, CanStart}
use Rattle.statement.specs.Lines.{empty}
use Rattle.statement_laws.specs.LineSays.{task_line}
use Rattle.statement_laws.specs.Taken.{statement_after, counted_entries}
use Rattle.statement_laws.specs.Told.{EachTold}
use Rattle.statement_laws.specs.Worked.{logged, told}
use Rattle.worked.specs.Plans.{A}
use Rattle.verdict.proofs.Quoted.{met_quoted}
use Rattle.statement_laws.proofs.Worked.{read_A, told_counted}
use Rattle.results.proofs.Numbers.{numbers}
use Rattle.results.proofs.Statements.{longest_within_R, met_none_late}
use Rattle.results.proofs.Computed.{computed}

-- Both entries are finishes that the dispatcher told: of a release before tick 0, and of one before tick 14.
pub both_told : EachTold A told
unfolding play answer_of
both_told = (
  record {
    before = releasing 9 1 ∷ [];
    call = running 50;
    margin = pos 26;
    told = numbers.released_at_0;
  },
  (
    record {
      before = running 14 ∷ releasing 9 1 ∷ [];
      call = running 50;
      margin = pos 20;
      told = numbers.released_at_14;
    },
    tt,
  ),
)

-- The entries that the call counts are these.
counted_told : EachTold (read_of (file_of A)).plan (counted_entries (file_of A) (logged told ∷ []) empty)
counted_told = rw (read_A, told_counted) both_told

-- The plan that is read can be started.
can_read : CanStart (read_of (file_of A)).plan
can_read = rw read_A computed.can_A

-- Guest 9's first task is quoted 36, so no age in its line is past 36.
pub longest_36 :
    nth (statement_after (file_of A) (logged told ∷ []) empty).longest (task_line (read_of (file_of A)).plan 9 1) ≤ 36
longest_36 =
    longest_within_R (file_of A) (logged told ∷ []) can_read counted_told 9 1 36
    (rw read_A (met_quoted A 9 1 36 numbers.first_task))

-- It is met, so none is late.
pub none_late :
    nth (statement_after (file_of A) (logged told ∷ []) empty).late (task_line (read_of (file_of A)).plan 9 1) ≡ 0
none_late =
    met_none_late (file_of A) (logged told ∷ []) can_read counted_told 9 1 36 (rw read_A numbers.first_task)
