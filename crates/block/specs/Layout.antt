-- A guest's block, line by line as document 01's table has it, in words. Reader, writer and theorems say where a number
-- stands by these names alone; `Table` says the same lines in bytes.
use Rattle.std.specs.Prelude.{ℕ, ◌+◌, ◌*◌, ◌/◌, ◌%◌}

-- A block has 512 bytes.
abbrev pub block_size : ℕ
block_size = 512

-- A block has 128 words.
abbrev pub block_words : ℕ
block_words = 128

-- Bytes 0-1, the low half of this word, are the kind; bytes 2-3, its high half, are the place in the plan.
abbrev pub kind_place_word : ℕ
kind_place_word = 0

-- A block of this kind has no marks, and its server is Periodic.
abbrev pub plain_kind : ℕ
plain_kind = 1

-- A block of this kind has marks or a Deferrable Server.
abbrev pub extended_kind : ℕ
extended_kind = 2

-- The last place in a plan of 8 guests, from 0.
abbrev pub last_place : ℕ
last_place = 7

-- Bytes 4-7 are the guest's id.
abbrev pub id_word : ℕ
id_word = 1

-- Bytes 8-11 are the capacity.
abbrev pub capacity_word : ℕ
capacity_word = 2

-- Bytes 12-15 are the period.
abbrev pub period_word : ℕ
period_word = 3

-- Bytes 16-17, the low half of this word, are the number of tasks; bytes 18-19, its high half, are the switch charge.
abbrev pub tasks_charge_word : ℕ
tasks_charge_word = 4

-- Bytes 20-21, the low half of this word, are the marks of the tasks; of its high half byte 22 is the server, and byte
-- 23 is zero.
abbrev pub marks_server_word : ℕ
marks_server_word = 5

-- This number in byte 22 is a Deferrable Server; a Periodic one is 0.
abbrev pub deferrable_server : ℕ
deferrable_server = 1

-- Bytes 24-31 are zero; they start at this word.
abbrev pub spare_from : ℕ
spare_from = 6

-- The spare words end before this one.
abbrev pub spare_to : ℕ
spare_to = 8

-- Bytes 32-223 are 16 entries of 12 bytes, three words each.
abbrev pub entry_words : ℕ
entry_words = 3

-- The first entry starts at this word.
abbrev pub first_task : ℕ
first_task = 8

-- The run of entry i, from 0, is an entry's first word.
abbrev pub run_word : ℕ → ℕ
run_word i = first_task + entry_words * i

-- The period of entry i is the second.
abbrev pub every_word : ℕ → ℕ
every_word i = first_task + 1 + entry_words * i

-- The deadline of entry i is the third.
abbrev pub deadline_word : ℕ → ℕ
deadline_word i = first_task + 2 + entry_words * i

-- Entries past the number n of tasks, and bytes 224-507, are zero; they start at this word and end before the check.
abbrev pub unused_from : ℕ → ℕ
unused_from n = run_word n

-- Bytes 508-511 are the check.
abbrev pub check_word : ℕ
check_word = 127

-- A half of a word holds the numbers below this.
abbrev pub half_wrap : ℕ
half_wrap = 65536

-- A byte holds the numbers below this.
abbrev pub byte_wrap : ℕ
byte_wrap = 256

-- The low half of a word.
abbrev pub low_half : ℕ → ℕ
low_half w = w % half_wrap

-- The high half of a word.
abbrev pub high_half : ℕ → ℕ
high_half w = w / half_wrap

-- The word of two halves.
abbrev pub halves : (low high : ℕ) → ℕ
halves low high = low + half_wrap * high
