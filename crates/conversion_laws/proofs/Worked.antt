-- Plan A with both guests Deferrable, converted, by computation. Assumes nothing.
use mathlib.Core.Path.{◌≡◌, refl}
use mathlib.Core.List.{[], ◌∷◌}
use lib.ListN.{set}
use Rattle.lists.specs.All.{all_to}
use Rattle.lists.specs.Places.{nth}
use Rattle.lists.specs.Sum.{sum_to}
use Rattle.lists.specs.Table.{table}
use Rattle.lists.specs.Refusals.{unless, refusal}
use Rattle.words.specs.Word.{word, u16_at}
use Rattle.words.specs.Bytes.{bytes_of}
use Rattle.plan.specs.Marks.{marked, marks_of}
use Rattle.plan.specs.Ranges.{head_ok, task_ok, start_ok, tasks_ok}
use Rattle.plan.specs.First.{refused, fine, or_else, first_refused}
use Rattle.plan.specs.Order.{new_id}
use Rattle.block.specs.Reading.{column, zero_between, marks_ok, block_number}
use Rattle.blockparts.specs.Parts.{with_entry, with_entries, with_check}
use Rattle.blockwriter.specs.Writing.{with_kind, with_head, words_of, block_of}
use Rattle.blockfile.specs.File.{number_at, sized_by, blocks_refusal}
use Rattle.blockfile.specs.Joined.{joined}
use Rattle.worked.specs.Plans.{A, plan_E, plan_G}
use Rattle.planfile_laws.specs.File.{file_of}
use Rattle.conversion.specs.Converting.{converted_block, converted_bytes}
use Rattle.conversion.specs.Outcome.{room_number, convert_refusal}

-- Both blocks are of kind 2 with 1 in byte 22. Converted they are plan A's, of kind 1. Where guest 9's first task is
-- bound its block stays of kind 2, and has the bytes of the Periodic guest with that mark. An output of 1,023 bytes is
-- shorter than the plan, and a damaged plan is refused as reading refuses it.
pub record Computed : Type 0 where
  pub before : u16_at (file_of (plan_G 50 0)) 0 ∷ nth (file_of (plan_G 50 0)) 22 ∷ [] ≡ 2 ∷ 1 ∷ []
  pub plain : converted_bytes (file_of (plan_G 50 0)) ≡ file_of A
  pub bound : converted_bytes (file_of (plan_G 60 1)) ≡ file_of (plan_E 1)
  pub room : convert_refusal (file_of (plan_G 50 0)) 1024 ∷ convert_refusal (file_of (plan_G 50 0)) 1023 ∷ []
      ≡ fine ∷ refused 12 0 ∷ []
  pub damaged : convert_refusal (set (file_of (plan_G 50 0)) 4 8) 0 ≡ refused 2 0

pub computed : Computed
unfolding converted_bytes converted_block convert_refusal room_number blocks_refusal sized_by first_refused or_else number_at
    block_number refusal unless word sum_to new_id column table zero_between all_to marks_ok head_ok task_ok start_ok tasks_ok
    marked marks_of file_of joined block_of bytes_of with_check words_of with_entries with_entry with_head with_kind
computed = record { before = refl; plain = refl; bound = refl; room = refl; damaged = refl }
