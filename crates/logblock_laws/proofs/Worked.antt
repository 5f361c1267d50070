-- A log block of two jobs, and what it is refused by with one word changed, by computation. Assumes nothing.
use mathlib.Core.Path.{◌≡◌, refl}
use mathlib.Core.List.{List, [], ◌∷◌}
use Prim.Native.Nat.{ℕ}
use lib.ListN.{set}
use Rattle.lists.specs.All.{all_to}
use Rattle.lists.specs.Places.{nth}
use Rattle.lists.specs.Sum.{sum_to}
use Rattle.lists.specs.Refusals.{unless, refusal}
use Rattle.words.specs.Word.{word}
use Rattle.words.specs.Bytes.{bytes_of}
use Rattle.block.specs.Layout.{block_words, halves}
use Rattle.block.specs.Reading.{zero_between}
use Rattle.blockparts.specs.Parts.{with_entry, with_entries, with_check}
use Rattle.logblock.specs.declared.Entry.{Entry}
use Rattle.logblock.specs.declared.Entries.{Entries}
use Rattle.logblock.specs.Layout.{kind_jobs_word, log_kind, blank_word, guest_word, age_word}
use Rattle.logblock.specs.Entries.{jobs_ok}
use Rattle.logblock.specs.Reading.{entry_in, own_number}
use Rattle.logblock.specs.Writing.{log_words, log_of}

-- A job of guest 7 and one of guest 9.
abbrev jobs : List Entry
jobs = record { guest = 7; task = 1; age = 16 } ∷ record { guest = 9; task = 2; age = 1000000 } ∷ []

abbrev two : Entries
two = record { count = 2; entries = jobs }

-- They are read back as they were.
pub two_back : entry_in (log_of two) 0 ∷ entry_in (log_of two) 1 ∷ [] ≡ jobs
unfolding entry_in word log_of bytes_of with_check log_words with_entries with_entry sum_to
two_back = refl

-- The block with another number in word k, and its check.
abbrev changed : (k w : ℕ) → List ℕ
changed k w = bytes_of (nth (with_check (set (log_words two) k w))) block_words

-- Another kind is refused by 3; no job, 42 jobs, and ages of 0 and 1,000,001 by 18; a byte of 4-7, or past the two
-- entries, by 5.
pub refused_by_lem :
    own_number (log_of two)
    ∷ own_number (changed kind_jobs_word (halves 1 2))
    ∷ own_number (changed kind_jobs_word (halves log_kind 0))
    ∷ own_number (changed kind_jobs_word (halves log_kind 42))
    ∷ own_number (changed (age_word 0) 0)
    ∷ own_number (changed (age_word 1) 1000001)
    ∷ own_number (changed blank_word 1)
    ∷ own_number (changed (guest_word 2) 7)
    ∷ []
    ≡ 0 ∷ 3 ∷ 18 ∷ 18 ∷ 18 ∷ 18 ∷ 5 ∷ 5 ∷ []
unfolding own_number refusal unless word sum_to zero_between all_to jobs_ok log_of bytes_of with_check log_words with_entries
    with_entry
refused_by_lem = refl
