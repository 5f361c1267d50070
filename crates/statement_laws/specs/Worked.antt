-- The logs of the worked numbers, against plan A, whose guest 9 has two tasks with deadlines 50 and 100.
use Rattle.std.specs.Prelude.{List, [], ◌∷◌, ◌++◌, ℕ, ℤ, length, replicate}
use Rattle.lists.specs.Places.{nth}
use Rattle.block.specs.Layout.{block_size}
use Rattle.logblock.specs.declared.Entry.{Entry}
use Rattle.logblock.specs.Writing.{log_of}
use Rattle.statement.specs.declared.Statement.{Statement}
use Rattle.statement.specs.Lines.{margins_at}

-- An entry: a guest, a task and an age.
abbrev pub entry : (guest task age : ℕ) → Entry
entry guest task age = record { guest = guest; task = task; age = age }

-- The log block that is written of these entries.
abbrev pub logged : List Entry → List ℕ
logged es = log_of (record { count = length es; entries = es })

-- Two jobs of guest 9's first task, as the dispatcher tells them of releases at tick 0 and at tick 14.
abbrev pub told : List Entry
told = entry 9 1 24 ∷ entry 9 1 30 ∷ []

-- Five finished jobs of guest 9: three of its first task, one of them late by a tick, and two of its second, one of
-- them late by 60.
abbrev pub jobs : List Entry
jobs = entry 9 1 24 ∷ entry 9 1 30 ∷ entry 9 2 160 ∷ entry 9 1 51 ∷ entry 9 2 100 ∷ []

-- Their block, and one of zeros after it.
abbrev pub log : List ℕ
log = logged jobs ++ replicate block_size 0

-- A line in figures: the jobs counted, the longest age and how many were late, and the sum of the margins.
abbrev pub figures : Statement → ℕ → List ℕ × ℤ
figures s k = (nth s.jobs k ∷ nth s.longest k ∷ nth s.late k ∷ [], margins_at s k)
