-- What a finished job adds to a statement, and what a log block does.
use Rattle.std.specs.Prelude.{List, ℕ, zero, suc, ◌+◌, ◌-◌, max, ltb, ◌+ℤ◌, set}
use Rattle.lists.specs.Choice.{pick}
use Rattle.lists.specs.Places.{nth}
use Rattle.plan.specs.declared.Plan.{Plan}
use Rattle.plan.specs.Records.{guest_at, deadline_of}
use Rattle.plan.specs.Place.{place_of}
use Rattle.arrays.specs.Place.{place_at}
use Rattle.margins.specs.Margin.{margin_of}
use Rattle.logblock.specs.declared.Entry.{Entry}
use Rattle.logblock.specs.Reading.{jobs_in, entry_in}
use Rattle.statement.specs.declared.Statement.{Statement}
use Rattle.statement.specs.Lines.{margins_at}

-- The line of the task that an entry names.
abbrev pub line_of : Plan → Entry → ℕ
line_of p e = place_at (place_of p e.guest) (e.task - 1)

-- The deadline of the task that an entry names.
abbrev pub deadline_for : Plan → Entry → ℕ
deadline_for p e = deadline_of (guest_at p.guests (place_of p e.guest)) (e.task - 1)

-- A job of that age counted in line k, whose task has that deadline.
unfoldable pub counted_at : (k deadline age : ℕ) → Statement → Statement
counted_at k deadline age s = record {
  blocks = s.blocks;
  margins = set s.margins k (margins_at s k +ℤ margin_of deadline age);
  jobs = set s.jobs k (nth s.jobs k + 1);
  longest = set s.longest k (max (nth s.longest k) age);
  late = set s.late k (nth s.late k + pick (ltb deadline age) 1 0);
}

-- A finished job counted in its task's line.
abbrev pub counted : Plan → Entry → Statement → Statement
counted p e s = counted_at (line_of p e) (deadline_for p e) e.age s

-- The first n entries of a block counted, in order.
unfoldable pub entries_counted : Plan → (block : List ℕ) → ℕ → Statement → Statement
entries_counted p b zero s = s
entries_counted p b (suc n) s = counted p (entry_in b n) (entries_counted p b n s)

-- One block more is counted.
abbrev pub one_more : Statement → Statement
one_more s = record {
  blocks = s.blocks + 1;
  margins = s.margins;
  jobs = s.jobs;
  longest = s.longest;
  late = s.late;
}

-- A block counted, with all its entries.
unfoldable pub block_counted : Plan → (block : List ℕ) → Statement → Statement
block_counted p b s = one_more (entries_counted p b (jobs_in b) s)
