-- A worked example, by computation: a log against plan A, whose guest 9 has two tasks with deadlines 50 and 100.
-- Assumes nothing.
use mathlib.Core.Path.{◌≡◌, refl, ap, ◌∙◌}
use mathlib.Core.List.{[], ◌∷◌}
use lib.IntN.{pos, negsuc}
use Rattle.lists.specs.All.{all_to}
use Rattle.lists.specs.Search.{first_from}
use Rattle.lists.specs.Sum.{sum_to}
use Rattle.lists.specs.Table.{table}
use Rattle.lists.specs.Refusals.{unless, refusal}
use Rattle.words.specs.Word.{word}
use Rattle.words.specs.Bytes.{bytes_of}
use Rattle.plan.specs.Place.{place_of, has_guest, has_task}
use Rattle.plan.specs.First.{or_else, first_refused}
use Rattle.block.specs.Reading.{zero_between}
use Rattle.blockparts.specs.Parts.{with_entry, with_entries, with_check}
use Rattle.logblock.specs.Writing.{log_words, log_of}
use Rattle.logblock.specs.Entries.{jobs_ok}
use Rattle.logblock.specs.Reading.{entry_in}
use Rattle.margins.specs.Margin.{margin_of}
use Rattle.worked.specs.Plans.{A}
use Rattle.statement.specs.declared.Statement.{Statement}
use Rattle.statement.specs.Lines.{empty}
use Rattle.statement.specs.Counting.{counted_at, entries_counted, block_counted}
use Rattle.statement.specs.Block.{block_number}
use Rattle.statement.specs.Log.{taken_by, after_blocks, passed_by}
use Rattle.statement.specs.declared.Stated.{Stated}
use Rattle.statement.specs.Call.{call_refusal, stated_over, stated}
use Rattle.plan.specs.declared.Plan.{Plan}
use Rattle.blockfile.specs.File.{file_refusal}
use Rattle.planfile.specs.declared.Reading.{Reading}
use Rattle.planfile.specs.Records.{read_of}
use Rattle.planfile_laws.specs.File.{file_of}
use Rattle.statement_laws.specs.Taken.{added_by, taken_entries, entries_by, statement_after, counted_entries}
use Rattle.statement_laws.specs.Entries.{ages_of, greatest, late_in, margins_in}
use Rattle.statement_laws.specs.LineSays.{LineSays}
use Rattle.statement_laws.specs.Worked.{logged, told, jobs, log, figures}
use Rattle.planfile_laws.proofs.Worked.{plan_a_back}
use Rattle.statement_laws.proofs.Cut.{call_taken, call_passes}
use Rattle.statement_laws.proofs.Never14.{empty_ok}
use Rattle.statement_laws.proofs.Counts.{statement_counts}

-- Plan A's bytes are read as plan A.
pub read_A : (read_of (file_of A)).plan ≡ A
read_A = ap (λ (r : Reading). r.plan) plan_a_back

fine_A : (file_refusal (file_of A)).number ≡ 0
unfolding read_of
fine_A = ap (λ (r : Reading). r.refusal.number) plan_a_back

-- The call is not refused.
not_refused : (call_refusal empty (file_of A) log).number ≡ 0
unfolding bytes_of with_check log_of log_words with_entries with_entry
not_refused = call_passes empty (file_of A) log (fine_A, empty_ok) refl

-- Its outcome is that of the log's two blocks against plan A.
pub outcome : stated empty (file_of A) log ≡ stated_over A log 2 empty
unfolding bytes_of with_check log_of log_words with_entries with_entry
outcome =
    call_taken empty (file_of A) log not_refused ∙ ap (λ (p : Plan). stated_over p log 2 empty) read_A

-- It passes over the second block, at position 1, by 3.
pub second_passed :
    (stated empty (file_of A) log).passed
    ∷ (stated empty (file_of A) log).position
    ∷ (stated empty (file_of A) log).number
    ∷ []
    ≡ 1 ∷ 1 ∷ 3 ∷ []
unfolding block_number refusal unless word sum_to zero_between all_to jobs_ok entry_in has_guest has_task place_of first_from
    with_check bytes_of log_of log_words with_entries with_entry after_blocks taken_by passed_by first_refused or_else block_counted entries_counted counted_at
second_passed = ap (λ (r : Stated). r.passed ∷ r.position ∷ r.number ∷ []) outcome

-- The entries that it counts are those of the first.
pub entries_counted_lem : counted_entries (file_of A) (log ∷ []) empty ≡ jobs
unfolding counted_entries entries_by taken_entries added_by table block_number refusal unless word sum_to zero_between all_to
    jobs_ok entry_in has_guest has_task place_of first_from with_check bytes_of log_of log_words with_entries with_entry after_blocks taken_by passed_by block_counted
    entries_counted counted_at
entries_counted_lem = rw (outcome, read_A) refl

-- The statement after that call.
abbrev pub statement_A : Statement
statement_A = statement_after (file_of A) (log ∷ []) empty

-- Guest 9 is the plan's second, so the line of its first task is 16. The margins there are 26, 20 and -1.
pub first_line : figures statement_A 16 ≡ (3 ∷ 51 ∷ 1 ∷ [], pos 45)
unfolding ages_of greatest late_in margins_in margin_of has_guest has_task place_of first_from
first_line =
    let says : LineSays statement_A 16 50 (24 ∷ 30 ∷ 51 ∷ []) =
    rw (read_A, entries_counted_lem) at (statement_counts (file_of A) (log ∷ []) 9 1 (rw read_A refl) (rw read_A refl)) in
    rw (says.jobs, says.longest, says.late, says.margins) refl

-- The second task's margins are -60 and 0.
pub second_line : figures statement_A 17 ≡ (2 ∷ 160 ∷ 1 ∷ [], negsuc 59)
unfolding ages_of greatest late_in margins_in margin_of has_guest has_task place_of first_from
second_line =
    let says : LineSays statement_A 17 100 (160 ∷ 100 ∷ []) =
    rw (read_A, entries_counted_lem) at (statement_counts (file_of A) (log ∷ []) 9 2 (rw read_A refl) (rw read_A refl)) in
    rw (says.jobs, says.longest, says.late, says.margins) refl

-- A call on their block counts both, so that the theorems of what was told speak of them.
pub told_counted : counted_entries (file_of A) (logged told ∷ []) empty ≡ told
unfolding counted_entries entries_by taken_entries added_by table block_number refusal unless word sum_to zero_between all_to
    jobs_ok entry_in has_guest has_task place_of first_from with_check bytes_of log_of log_words with_entries with_entry after_blocks taken_by passed_by block_counted
    entries_counted counted_at
told_counted =
    let first : stated empty (file_of A) (logged told) ≡ stated_over (read_of (file_of A)).plan (logged told) 1 empty =
    call_taken empty (file_of A) (logged told)
    (call_passes empty (file_of A) (logged told) (fine_A, empty_ok) refl) in
    rw (first, read_A) refl

-- Their margins are 26 and 20.
pub told_line : figures (statement_after (file_of A) (logged told ∷ []) empty) 16 ≡ (2 ∷ 30 ∷ 0 ∷ [], pos 46)
unfolding ages_of greatest late_in margins_in margin_of has_guest has_task place_of first_from
told_line =
    let says : LineSays (statement_after (file_of A) (logged told ∷ []) empty) 16 50 (24 ∷ 30 ∷ []) =
    rw (read_A, told_counted) at (statement_counts (file_of A) (logged told ∷ []) 9 1 (rw read_A refl) (rw read_A refl))
    in
    rw (says.jobs, says.longest, says.late, says.margins) refl
