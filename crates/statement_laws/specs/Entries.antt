-- What is to be stated of a task, by the ages of its finished jobs.
use Rattle.std.specs.Prelude.{Bool, ◌&&◌, List, [], ◌∷◌, ℕ, ◌+◌, max, ltb, eqb, ℤ, pos, ◌+ℤ◌}
use Rattle.lists.specs.Choice.{pick}
use Rattle.lists.specs.Table.{table}
use Rattle.margins.specs.Margin.{margin_of}
use Rattle.logblock.specs.declared.Entry.{Entry}
use Rattle.logblock.specs.Reading.{jobs_in, entry_in}

-- The entries of a log block, in order.
abbrev pub entries_of : (block : List ℕ) → List Entry
entries_of b = table (entry_in b) (jobs_in b)

-- Whether an entry names that guest and that task of it.
abbrev pub names : (guest task : ℕ) → Entry → Bool
names guest task e = eqb e.guest guest && eqb e.task task

-- The ages of the entries that name the task, in order.
unfoldable pub ages_of : (guest task : ℕ) → List Entry → List ℕ
ages_of guest task [] = []
ages_of guest task (e ∷ es) = pick (names guest task e) (e.age ∷ ages_of guest task es) (ages_of guest task es)

-- The greatest of the ages, 0 for none.
unfoldable pub greatest : (ages : List ℕ) → ℕ
greatest [] = 0
greatest (age ∷ ages) = max age (greatest ages)

-- How many of the ages are past the deadline.
unfoldable pub late_in : (deadline : ℕ) → (ages : List ℕ) → ℕ
late_in deadline [] = 0
late_in deadline (age ∷ ages) = pick (ltb deadline age) 1 0 + late_in deadline ages

-- The exact sum of the margins: of the deadline less each age.
unfoldable pub margins_in : (deadline : ℕ) → (ages : List ℕ) → ℤ
margins_in deadline [] = pos 0
margins_in deadline (age ∷ ages) = margin_of deadline age +ℤ margins_in deadline ages
