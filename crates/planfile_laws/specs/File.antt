-- A plan as a file, and as it is read back.
use Rattle.std.specs.Prelude.{List, ◌++◌, ℕ, drop, replicate, ltb}
use Rattle.lists.specs.Choice.{pick}
use Rattle.lists.specs.Places.{nth}
use Rattle.lists.specs.Table.{table}
use Rattle.plan.specs.declared.Guest.{Guest}
use Rattle.plan.specs.declared.Plan.{Plan}
use Rattle.plan.specs.Records.{guest_at, blank}
use Rattle.plan.specs.Marks.{live_marks}
use Rattle.plan.specs.Ranges.{most_guests, most_tasks}
use Rattle.blockwriter.specs.Writing.{server_for, block_of}
use Rattle.blockfile.specs.Joined.{joined}

-- A plan's file: the blocks of its guests at places 0, 1, … and count - 1. The writer writes those of Periodic guests.
unfoldable pub file_of : Plan → List ℕ
file_of p = joined (λ k. block_of (guest_at p.guests k) k) p.count

-- A column with zeros past the first n tasks.
unfoldable pub first_tasks : ℕ → List ℕ → List ℕ
first_tasks n column = table (λ i. pick (ltb i n) (nth column i) 0) most_tasks

-- A guest with zeros past its tasks, and with 1 for any number that says Deferrable.
abbrev pub cleared_guest : Guest → Guest
cleared_guest g = record {
  id = g.id;
  capacity = g.capacity;
  period = g.period;
  tasks = g.tasks;
  charge = g.charge;
  marks = live_marks g;
  deferrable = server_for g;
  run = first_tasks g.tasks g.run;
  every = first_tasks g.tasks g.every;
  deadline = first_tasks g.tasks g.deadline;
}

-- A plan of such guests, with zeros past them.
unfoldable pub cleared : Plan → Plan
cleared p = record {
  count = p.count;
  guests = table (λ k. cleared_guest (guest_at p.guests k)) p.count ++ drop p.count (replicate most_guests blank);
}
