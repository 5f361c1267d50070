-- Plan A's file with its first block damaged, by computation. Assumes nothing.
use mathlib.Core.Path.{◌≡◌, refl}
use mathlib.Core.List.{List, [], ◌∷◌}
use Prim.Native.Nat.{ℕ}
use lib.ListN.{set}
use Rattle.lists.specs.All.{all_to}
use Rattle.lists.specs.Sum.{sum_to}
use Rattle.lists.specs.Table.{table}
use Rattle.lists.specs.Refusals.{unless, refusal}
use Rattle.words.specs.Word.{word}
use Rattle.words.specs.Bytes.{bytes_of}
use Rattle.plan.specs.Marks.{marked, marks_of}
use Rattle.plan.specs.Ranges.{head_ok, task_ok, start_ok, tasks_ok}
use Rattle.block.specs.Layout.{block_size}
use Rattle.block.specs.Reading.{column, zero_between, marks_ok, block_number}
use Rattle.blockparts.specs.Parts.{with_entry, with_entries, with_check}
use Rattle.blockwriter.specs.Writing.{with_kind, with_head, words_of, block_of}
use Rattle.blockfile.specs.Joined.{joined}
use Rattle.worked.specs.Plans.{nine, A}
use Rattle.planfile_laws.specs.File.{file_of}
use Rattle.salvage.specs.Keeping.{new_among, number_after, kept_by, kept_places}
use Rattle.salvage.specs.Fates.{fate_by, fate}
use Rattle.salvage.specs.Moving.{moved, moved_up}
use Rattle.salvage.specs.Outcome.{salvage_number, number_of}
use Rattle.salvage_laws.specs.Saved.{saved}

-- Plan A's file with 8 for the 7 in the first guest's id.
abbrev pub damaged : List ℕ
damaged = set (file_of A) 4 8

-- Guest 7's block is dropped by 2, and guest 9's moves up to place 0: it is the block that the writer writes there.
pub record Computed : Type 0 where
  pub seven : fate damaged 0 ≡ record { number = 2; place = 0 }
  pub nine_kept : fate damaged 1 ≡ record { number = 0; place = 0 }
  pub bytes : saved damaged ≡ block_of (nine 8) 0
  pub room : number_of damaged block_size ∷ number_of damaged 511 ∷ [] ≡ 0 ∷ 12 ∷ []

pub computed : Computed
unfolding fate_by number_after new_among kept_by kept_places moved_up moved salvage_number block_number refusal unless word
    sum_to column table zero_between all_to marks_ok head_ok task_ok start_ok tasks_ok marked marks_of file_of joined block_of bytes_of
    with_check words_of with_entries with_entry with_head with_kind
computed = record { seven = refl; nine_kept = refl; bytes = refl; room = refl }
