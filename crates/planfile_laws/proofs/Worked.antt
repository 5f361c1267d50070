-- Worked examples, by computation. Assumes nothing.
use mathlib.Core.Path.{◌≡◌, refl}
use mathlib.Core.List.{List, [], ◌∷◌}
use Prim.Native.Nat.{ℕ, ◌*◌}
use lib.ListN.{length, set, replicate}
use Rattle.lists.specs.All.{all_to}
use Rattle.lists.specs.Places.{nth}
use Rattle.lists.specs.Sum.{sum_to}
use Rattle.lists.specs.Table.{table}
use Rattle.lists.specs.Refusals.{unless, refusal}
use Rattle.words.specs.Word.{word}
use Rattle.words.specs.Bytes.{bytes_of}
use Rattle.plan.specs.declared.Guest.{Guest}
use Rattle.plan.specs.Records.{blank_plan}
use Rattle.plan.specs.Marks.{marked, marks_of}
use Rattle.plan.specs.Ranges.{head_ok, task_ok, start_ok, tasks_ok}
use Rattle.plan.specs.First.{refused, fine, or_else, first_refused}
use Rattle.plan.specs.Order.{new_id}
use Rattle.block.specs.Layout.{block_size, block_words, kind_place_word, extended_kind, marks_server_word, halves}
use Rattle.block.specs.Reading.{column, zero_between, marks_ok, block_number}
use Rattle.blockparts.specs.Parts.{with_entry, with_entries, with_check}
use Rattle.blockwriter.specs.Writing.{with_kind, with_head, words_of, block_of}
use Rattle.blockfile.specs.File.{number_at, sized_by, blocks_refusal}
use Rattle.worked.specs.Plans.{any_guest, plan_of, nine, A}
use Rattle.blockfile.specs.Records.{records_of}
use Rattle.blockfile.specs.Joined.{joined}
use Rattle.planfile.specs.Records.{plan_by, read_of}
use Rattle.planfile_laws.specs.File.{file_of}

-- A block of zero bytes: refusal 3, place 0.
pub zeros_refused : read_of (replicate block_size 0) ≡ record { refusal = refused 3 0; plan = blank_plan }
unfolding read_of plan_by blocks_refusal sized_by first_refused or_else number_at block_number refusal unless word sum_to
zeros_refused = refl

-- Empty input: 1.
pub empty : read_of [] ≡ record { refusal = refused 1 0; plan = blank_plan }
unfolding read_of plan_by blocks_refusal sized_by
empty = refl

-- Plan A is written to two blocks, 1,024 bytes.
pub plan_a_length : length (file_of A) ≡ 2 * block_size
unfolding file_of joined block_of bytes_of
plan_a_length = refl

-- It is read back as it was.
pub plan_a_back : read_of (file_of A) ≡ record { refusal = fine; plan = A }
unfolding read_of plan_by records_of blocks_refusal sized_by first_refused or_else number_at block_number refusal unless word
    sum_to new_id column table zero_between all_to marks_ok head_ok task_ok start_ok tasks_ok marked marks_of file_of joined block_of
    bytes_of with_check words_of with_entries with_entry with_head with_kind
plan_a_back = refl

-- Plan A's first guest with these marks and this server; its one task, every 20 ticks, is a multiple of the period of 5.
abbrev first : (marks deferrable : ℕ) → Guest
first marks deferrable = any_guest 7 2 5 0 marks deferrable (1 ∷ []) (20 ∷ []) (20 ∷ [])

-- A plan of both kinds is read back as it was, but for a mark past the one task.
pub bound_back :
    read_of (file_of (plan_of (first 3 0 ∷ nine 8 ∷ [])))
    ≡ record { refusal = fine; plan = plan_of (first 1 0 ∷ nine 8 ∷ []) }
unfolding read_of plan_by records_of blocks_refusal sized_by first_refused or_else number_at block_number refusal unless word
    sum_to new_id column table zero_between all_to marks_ok head_ok task_ok start_ok tasks_ok marked marks_of file_of joined block_of
    bytes_of with_check words_of with_entries with_entry with_head with_kind
bound_back = refl

-- A Deferrable guest without marks is read back too, with 1 for any number that says Deferrable.
pub deferrable_back :
    read_of (file_of (plan_of (first 0 7 ∷ nine 8 ∷ [])))
    ≡ record { refusal = fine; plan = plan_of (first 0 1 ∷ nine 8 ∷ []) }
unfolding read_of plan_by records_of blocks_refusal sized_by first_refused or_else number_at block_number refusal unless word
    sum_to new_id column table zero_between all_to marks_ok head_ok task_ok start_ok tasks_ok marked marks_of file_of joined block_of
    bytes_of with_check words_of with_entries with_entry with_head with_kind
deferrable_back = refl

-- A mark past the one task decides nothing by itself: the blocks are those of no mark, of kind 1.
pub past_alone : file_of (plan_of (first 2 0 ∷ nine 8 ∷ [])) ≡ file_of A
unfolding file_of joined block_of bytes_of with_check words_of with_entries with_entry with_head with_kind marks_of
past_alone = refl

-- The same guest's block with kind 2, these marks and this number in bytes 22-23, and its check.
abbrev opened : (marks server : ℕ) → List ℕ
opened marks server =
    bytes_of
    (nth
    (with_check (set (set (words_of (first 0 0) 0) kind_place_word extended_kind) marks_server_word (halves marks server))))
    block_words

-- Without marks, 2 in byte 22 is refused by 3; with a mark by 5, as is a byte 23 that is not zero.
pub servers_refused :
    (read_of (opened 0 2)).refusal ∷ (read_of (opened 1 2)).refusal ∷ (read_of (opened 0 257)).refusal ∷ []
    ≡ refused 3 0 ∷ refused 5 0 ∷ refused 5 0 ∷ []
unfolding read_of plan_by records_of blocks_refusal sized_by first_refused or_else number_at block_number refusal unless word
    sum_to new_id column table zero_between all_to marks_ok head_ok task_ok start_ok tasks_ok marked marks_of file_of joined block_of
    bytes_of with_check words_of with_entries with_entry with_head with_kind
servers_refused = refl
