-- Plan A with a sheet of one block that gives guest 9 capacity 7, by computation. Assumes nothing.
use mathlib.Core.Path.{◌≡◌, refl, ap, ◌∙◌}
use mathlib.Core.Bool.{true}
use mathlib.Core.List.{List}
use Prim.Native.Nat.{ℕ}
use lib.ListN.{length}
use Rattle.lists.specs.All.{all_to}
use Rattle.lists.specs.Search.{least}
use Rattle.lists.specs.Sum.{sum_to}
use Rattle.lists.specs.Table.{table}
use Rattle.lists.specs.Refusals.{unless, refusal}
use Rattle.words.specs.Word.{word}
use Rattle.words.specs.Bytes.{bytes_of}
use Rattle.plan.specs.Marks.{marked, marks_of}
use Rattle.plan.specs.Ranges.{head_ok, task_ok, start_ok, tasks_ok}
use Rattle.plan.specs.First.{or_else, first_refused, refused_by}
use Rattle.plan.specs.Order.{new_id}
use Rattle.plan.specs.Placed.{with_guest}
use Rattle.block.specs.Reading.{column, zero_between, marks_ok, block_number}
use Rattle.blockparts.specs.Parts.{with_entry, with_entries, with_check}
use Rattle.blockwriter.specs.Writing.{with_kind, with_head, words_of, block_of}
use Rattle.blockfile.specs.File.{size_ok, number_at, sized_by, blocks_refusal, file_refusal}
use Rattle.blockfile.specs.Records.{records_of}
use Rattle.planfile.specs.declared.Reading.{Reading}
use Rattle.planfile.specs.Records.{read_of}
use Rattle.blockfile.specs.Joined.{joined}
use Rattle.planfile_laws.specs.File.{file_of}
use Rattle.worked.specs.Plans.{A, nine}
use Rattle.capacity.specs.Capacity.{with_capacity}
use Rattle.amendment.specs.declared.Located.{Located}
use Rattle.amendment.specs.Pair.{in_plan, in_sheet, is_found_at, foreign_number, sheet_refusal, pair_refusal}
use Rattle.amendment.specs.Amended.{block_or, amended}
use Rattle.amendment.specs.Finder.{standing, located_or, pair_place}
use Rattle.amendment_laws.specs.Replaced.{Fine, AnsweredAs, OwnBlocks}
use Rattle.planfile_laws.proofs.Exact.{apart}
use Rattle.planfile_laws.proofs.Worked.{plan_a_length, plan_a_back}
use Rattle.amendment_laws.proofs.Answers.{as_same}
use Rattle.amendment_laws.proofs.Own.{own_plan, own_fine}

-- A sheet of one block, at guest 9's place.
abbrev pub sheet_7 : List ℕ
sheet_7 = block_of (nine 7) 1

-- All that is computed.
pub record Computed : Type 0 where
  -- The pair is not refused, and the amended plan is plan A with capacity 7 for guest 9.
  pub fine : pair_refusal (file_of A) sheet_7 ≡ in_plan 0 0
  pub plan : amended (file_of A) sheet_7 ≡ with_capacity A 1 7
  -- Guest 9's block stands in the sheet, guest 7's in the plan, and there is no guest 8.
  pub nine_there : pair_place (file_of A) sheet_7 9 ≡ in_sheet 0 0
  pub seven_there : pair_place (file_of A) sheet_7 7 ≡ in_plan 0 0
  pub eight_nowhere : pair_place (file_of A) sheet_7 8 ≡ in_plan 7 0
  -- At guest 7's place the sheet is refused.
  pub misplaced : pair_refusal (file_of A) (block_of (nine 7) 0) ≡ in_sheet 16 0

pub computed : Computed
unfolding pair_refusal sheet_refusal is_found_at foreign_number refused_by least blocks_refusal sized_by first_refused or_else number_at
    block_number refusal unless word sum_to new_id column table zero_between all_to marks_ok head_ok task_ok start_ok tasks_ok
    marked marks_of file_of joined block_of bytes_of with_check words_of with_entries with_entry with_head with_kind
    pair_place located_or standing amended block_or records_of with_guest
computed = record {
  fine = refl;
  plan = refl;
  nine_there = refl;
  seven_there = refl;
  eight_nowhere = refl;
  misplaced = refl;
}

-- The pair is answered for as plan A with capacity 7 for guest 9.
pub answers_7 : AnsweredAs (file_of A) sheet_7 (with_capacity A 1 7)
answers_7 =
    as_same (file_of A) sheet_7 (ap (λ (r : Located). r.number) computed.fine) (with_capacity A 1 7) computed.plan

-- Plan A's own file as the sheet: a plan is well formed, and each block is its own.
own_a : OwnBlocks (file_of A) (file_of A)
own_a j l = (j, (l, refl))

well_a : (file_refusal (file_of A)).number ≡ 0
unfolding read_of
well_a = ap (λ (r : Reading). r.refusal.number) plan_a_back

size_a : size_ok (length (file_of A)) ≡ true
size_a = rw plan_a_length refl

fine_a : Fine (file_of A) (file_of A)
fine_a = own_fine (file_of A) (file_of A) well_a own_a size_a (apart true (file_of A) well_a)

-- It changes no answer.
pub own_answers_a : AnsweredAs (file_of A) (file_of A) A
own_answers_a =
    as_same (file_of A) (file_of A) fine_a A
    (own_plan (file_of A) (file_of A) well_a own_a ∙ ap (λ (r : Reading). r.plan) plan_a_back)
