-- The server that a guest is: Periodic, or Deferrable as guests of old plans can be.
use Rattle.std.specs.Prelude.{Bool, not, ℕ, eqb}
use Rattle.plan.specs.declared.Guest.{Guest}

-- whether a record's number for the server says Deferrable: any but 0 does
abbrev pub says_deferrable : ℕ → Bool
says_deferrable number = not (eqb number 0)

-- whether a guest is a Deferrable Server
abbrev pub is_deferrable : Guest → Bool
is_deferrable g = says_deferrable g.deferrable

-- whether a guest is a Periodic Server
abbrev pub is_periodic : Guest → Bool
is_periodic g = eqb g.deferrable 0

-- a guest made a Periodic Server with the same numbers
abbrev pub as_periodic : Guest → Guest
as_periodic g = record {
  id = g.id;
  capacity = g.capacity;
  period = g.period;
  tasks = g.tasks;
  charge = g.charge;
  marks = g.marks;
  deferrable = 0;
  run = g.run;
  every = g.every;
  deadline = g.deadline;
}
