-- A log block, line by line in words. Its size, its check and the length of an entry are those of a plan's block.
use Rattle.std.specs.Prelude.{ℕ, ◌+◌, ◌*◌}
use Rattle.block.specs.Layout.{entry_words}

-- Bytes 0-1, the low half of this word, are the kind; bytes 2-3, its high half, are the number of jobs.
abbrev pub kind_jobs_word : ℕ
kind_jobs_word = 0

-- A block of this kind is a log of finished jobs.
abbrev pub log_kind : ℕ
log_kind = 3

-- The most jobs in a block.
abbrev pub most_jobs : ℕ
most_jobs = 41

-- Bytes 4-7 are zero.
abbrev pub blank_word : ℕ
blank_word = 1

-- From byte 8 on there are entries of 12 bytes, three words each; the first one starts at this word.
abbrev pub first_entry : ℕ
first_entry = 2

-- The guest id of entry i, from 0, is an entry's first word.
abbrev pub guest_word : ℕ → ℕ
guest_word i = first_entry + entry_words * i

-- The task number of entry i is the second.
abbrev pub task_word : ℕ → ℕ
task_word i = first_entry + 1 + entry_words * i

-- The age of entry i is the third.
abbrev pub age_word : ℕ → ℕ
age_word i = first_entry + 2 + entry_words * i

-- The bytes past n entries are zero; they start at this word and end before the check.
abbrev pub past_entries : ℕ → ℕ
past_entries n = guest_word n
