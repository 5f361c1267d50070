-- What a log block says, and the refusals that it has by itself, in their order.
use Rattle.std.specs.Prelude.{Bool, ◌&&◌, List, [], ◌∷◌, ℕ, eqb}
use Rattle.lists.specs.Refusals.{Test, refusal, ◌or_refuse◌}
use Rattle.words.specs.Word.{word}
use Rattle.block.specs.Layout.{check_word, low_half, high_half}
use Rattle.block.specs.Reading.{sums_to_zero, zero_between}
use Rattle.logblock.specs.declared.Entry.{Entry}
use Rattle.logblock.specs.Layout.{kind_jobs_word, log_kind, blank_word, guest_word, task_word, age_word, past_entries}
use Rattle.logblock.specs.Entries.{jobs_ok}

-- The number of jobs that a block says.
abbrev pub jobs_in : List ℕ → ℕ
jobs_in b = high_half (word b kind_jobs_word)

-- Entry i of a block, from 0.
unfoldable pub entry_in : List ℕ → ℕ → Entry
entry_in b i = record { guest = word b (guest_word i); task = word b (task_word i); age = word b (age_word i) }

-- Passes 3: the kind is that of a log.
abbrev pub is_log : List ℕ → Bool
is_log b = eqb (low_half (word b kind_jobs_word)) log_kind

-- Passes 18: the number of jobs and each age are in their ranges.
abbrev pub jobs_pass : List ℕ → Bool
jobs_pass b = jobs_ok (jobs_in b) (λ i. word b (age_word i))

-- Passes 5: bytes 4-7 and those past the entries are zero.
abbrev pub rest_zero : List ℕ → Bool
rest_zero b = eqb (word b blank_word) 0 && zero_between b (past_entries (jobs_in b)) check_word

-- What is asked of a block by itself.
abbrev pub own_tests : List ℕ → List Test
own_tests b =
    sums_to_zero b or_refuse 2
    ∷ is_log b or_refuse 3
    ∷ jobs_pass b or_refuse 18
    ∷ rest_zero b or_refuse 5
    ∷ []

-- The number that a block is refused by, by itself; 0 for none.
unfoldable pub own_number : List ℕ → ℕ
own_number b = refusal (own_tests b)
