-- What the entries promise: the whole answer, on refusals too.
use Rattle.std.specs.Prelude.{◌≡◌, ℕ, Result}
use Rattle.plan.specs.declared.Plan.{Plan}
use Rattle.plan.specs.declared.Refusal.{Refusal}
use Rattle.verdict.specs.declared.GuestVerdict.{GuestVerdict}
use Rattle.verdict.specs.declared.TaskVerdict.{TaskVerdict}
use Rattle.verdict.specs.declared.Acceptance.{Acceptance}
use Rattle.verdict.specs.Verdict.{guest_verdict, task_verdict, acceptance}

-- guest_verdict gives the guest's verdict
abbrev pub GuestJudged : Plan → ℕ → Result GuestVerdict Refusal → Type 0
GuestJudged p id r = r ≡ guest_verdict p id

-- task_verdict gives the task's verdict
abbrev pub TaskJudged : Plan → ℕ → ℕ → Result TaskVerdict Refusal → Type 0
TaskJudged p id number r = r ≡ task_verdict p id number

-- accept gives the plan's acceptance
abbrev pub Accepts : Plan → Result Acceptance Refusal → Type 0
Accepts p r = r ≡ acceptance p
