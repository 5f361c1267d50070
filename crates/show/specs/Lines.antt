-- The lines that the printing program shows: which verdict each of them says.
use Rattle.std.specs.Prelude.{ℕ, Result, Ok, Err}
use Rattle.plan.specs.declared.Plan.{Plan}
use Rattle.plan.specs.declared.Refusal.{Refusal}
use Rattle.verdict.specs.Verdict.{guest_verdict, task_verdict, acceptance}
use Rattle.verdict.specs.declared.GuestVerdict.{GuestVerdict}
use Rattle.verdict.specs.declared.TaskVerdict.{TaskVerdict}
use Rattle.verdict.specs.declared.Acceptance.{Acceptance}
use Rattle.show.specs.declared.Line.{Line}
use Rattle.show.specs.declared.Line.TheVariants.{Refused, Fitted, Unfit, Met, UnmetAt, Unmet, Unjudged, Accepted, NotAccepted}
use Rattle.verdict.specs.declared.GuestVerdict.TheVariants as guest
use Rattle.verdict.specs.declared.TaskVerdict.TheVariants as task
use Rattle.verdict.specs.declared.Acceptance.TheVariants as plan

-- A guest's line is `guest ID fitted X` or `guest ID unfit`.
abbrev pub guest_shown : (id : ℕ) → Result GuestVerdict Refusal → Line
guest_shown id (Err r) = Refused r.number r.place
guest_shown id (Ok (guest.Fitted x)) = Fitted id x
guest_shown id (Ok guest.Unfit) = Unfit id

-- A task's line is `task N met R`, `task N unmet R`, `task N unmet` or `task N unjudged`.
abbrev pub task_shown : (number : ℕ) → Result TaskVerdict Refusal → Line
task_shown n (Err r) = Refused r.number r.place
task_shown n (Ok (task.Met r)) = Met n r
task_shown n (Ok (task.UnmetAt r)) = UnmetAt n r
task_shown n (Ok task.Unmet) = Unmet n
task_shown n (Ok task.Unjudged) = Unjudged n

-- The last line is `plan accepted` or `plan not accepted`.
abbrev pub plan_shown : Result Acceptance Refusal → Line
plan_shown (Err r) = Refused r.number r.place
plan_shown (Ok plan.Accepted) = Accepted
plan_shown (Ok plan.NotAccepted) = NotAccepted

-- The line of the guest with an id.
abbrev pub guest_line : Plan → (id : ℕ) → Line
guest_line p id = guest_shown id (guest_verdict p id)

-- The line of one of a guest's tasks, numbered from 1.
abbrev pub task_line : Plan → (id number : ℕ) → Line
task_line p id number = task_shown number (task_verdict p id number)

-- The plan's line.
abbrev pub last_line : Plan → Line
last_line p = plan_shown (acceptance p)
