-- A plan's records: the guests in priority order, and each guest's tasks in priority order.
use Rattle.std.specs.Prelude.{List, [], ℕ, get_or, replicate}
use Rattle.lists.specs.Places.{nth}
use Rattle.plan.specs.declared.Guest.{Guest}
use Rattle.plan.specs.declared.Plan.{Plan}

-- the guest that is read past the end of a plan
abbrev pub absent : Guest
absent = record {
  id = 0;
  capacity = 0;
  period = 0;
  tasks = 0;
  charge = 0;
  marks = 0;
  deferrable = 0;
  run = [];
  every = [];
  deadline = [];
}

-- the guest at place k, from 0
abbrev pub guest_at : List Guest → ℕ → Guest
guest_at gs k = get_or gs k absent

-- the run of task i, from 0
abbrev pub run_of : Guest → ℕ → ℕ
run_of g i = nth g.run i

-- the period of task i
abbrev pub every_of : Guest → ℕ → ℕ
every_of g i = nth g.every i

-- the deadline of task i
abbrev pub deadline_of : Guest → ℕ → ℕ
deadline_of g i = nth g.deadline i

-- a record of zeros
abbrev pub blank : Guest
blank = record {
  id = 0;
  capacity = 0;
  period = 0;
  tasks = 0;
  charge = 0;
  marks = 0;
  deferrable = 0;
  run = replicate 16 0;
  every = replicate 16 0;
  deadline = replicate 16 0;
}

-- a plan of zeros
abbrev pub blank_plan : Plan
blank_plan = record { count = 0; guests = replicate 8 blank }
