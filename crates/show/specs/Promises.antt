-- What the entries promise: the line, and so the verdict that it shows.
use Rattle.std.specs.Prelude.{◌≡◌, ℕ}
use Rattle.plan.specs.declared.Plan.{Plan}
use Rattle.show.specs.declared.Line.{Line}
use Rattle.show.specs.Lines.{guest_line, task_line, last_line}

-- `guest_line` gives the line of the guest's verdict.
abbrev pub ShowsGuest : Plan → ℕ → Line → Type 0
ShowsGuest p id r = r ≡ guest_line p id

-- `task_line` gives the line of the task's verdict.
abbrev pub ShowsTask : Plan → ℕ → ℕ → Line → Type 0
ShowsTask p id number r = r ≡ task_line p id number

-- `last_line` gives the line of the plan's acceptance.
abbrev pub ShowsPlan : Plan → Line → Type 0
ShowsPlan p r = r ≡ last_line p
