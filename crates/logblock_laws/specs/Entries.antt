-- The entries of a log block, as they are handed over and as they are read back.
use Rattle.std.specs.Prelude.{◌≡◌, List, ℕ, ◌<◌, length}
use Rattle.lists.specs.Table.{table}
use Rattle.words.specs.Word.{word_wrap}
use Rattle.block.specs.Layout.{block_size}
use Rattle.logblock.specs.declared.Entries.{Entries}
use Rattle.logblock.specs.Layout.{most_jobs}
use Rattle.logblock.specs.Entries.{entry_at}
use Rattle.logblock.specs.Reading.{jobs_in, entry_in, own_number}
use Rattle.logblock.specs.Writing.{log_of}

-- The numbers of the jobs are u32, as every value of the code is; for the ages their range says so.
pub record JobsInTypes (es : Entries) : Type 0 where
  pub guest : (i : ℕ) → i < es.count → (entry_at es i).guest < word_wrap
  pub task : (i : ℕ) → i < es.count → (entry_at es i).task < word_wrap

-- The block that is written of entries has 512 bytes, is refused by no number, and says the same jobs.
pub record ReadBack (es : Entries) : Type 0 where
  pub long : length (log_of es) ≡ block_size
  pub passes : own_number (log_of es) ≡ 0
  pub count : jobs_in (log_of es) ≡ es.count
  pub entry : (i : ℕ) → i < es.count → entry_in (log_of es) i ≡ entry_at es i

-- The entries that a block says.
abbrev pub entries_in : List ℕ → Entries
entries_in b = record { count = jobs_in b; entries = table (entry_in b) most_jobs }
