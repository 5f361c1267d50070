-- Document 01's number and values for each case of a verdict, and what the entries' verdicts tell by it.
use Rattle.std.specs.Prelude.{◌≡◌, [], ◌∷◌, ℕ, ◌-◌, Result, Ok, Err}
use Rattle.lists.specs.Choice.{pick}
use Rattle.lists.specs.Refusals.{◌or_refuse◌}
use Rattle.plan.specs.First.{refuse_or}
use Rattle.plan.specs.Order.{plan_refusal, records_then}
use Rattle.plan.specs.Place.{place_of, has_guest, has_task}
use Rattle.plan.specs.Told.{Told, refusing, saying, value_of}
use Rattle.plan.specs.declared.Plan.{Plan}
use Rattle.plan.specs.declared.Refusal.{Refusal}
use Rattle.response.specs.Guest.{guest_response, fitted_to}
use Rattle.response.specs.Task.{task_response}
use Rattle.verdict.specs.declared.GuestVerdict.{GuestVerdict}
use Rattle.verdict.specs.declared.TaskVerdict.{TaskVerdict}
use Rattle.verdict.specs.declared.Acceptance.{Acceptance}
use Rattle.verdict.specs.declared.GuestVerdict.TheVariants.{Fitted, Unfit}
use Rattle.verdict.specs.declared.TaskVerdict.TheVariants.{Met, UnmetAt, Unmet, Unjudged}
use Rattle.verdict.specs.declared.Acceptance.TheVariants.{Accepted, NotAccepted}

-- a guest: fitted has its response
unfoldable pub guest_told : Result GuestVerdict Refusal → Told
guest_told (Err r) = refusing r.number r.place
guest_told (Ok (Fitted x)) = saying (x ∷ [])
guest_told (Ok Unfit) = saying []

-- a task: met has its response, unmet has it where it is at most the task's period
unfoldable pub task_told : Result TaskVerdict Refusal → Told
task_told (Err r) = refusing r.number r.place
task_told (Ok (Met r)) = saying (r ∷ [])
task_told (Ok (UnmetAt r)) = saying (r ∷ [])
task_told (Ok Unmet) = saying []
task_told (Ok Unjudged) = saying []

-- a plan: neither case has a value
unfoldable pub plan_told : Result Acceptance Refusal → Told
plan_told (Err r) = refusing r.number r.place
plan_told (Ok Accepted) = saying []
plan_told (Ok NotAccepted) = saying []

-- guest_verdict tells the refusal by the records' order and then 7, or the guest's response
abbrev pub GuestTells : Plan → ℕ → Result GuestVerdict Refusal → Type 0
GuestTells p id r =
    guest_told r ≡ refuse_or refusing (records_then p (has_guest p id or_refuse 7 ∷ []))
    (saying (value_of (guest_response p (place_of p id))))

-- task_verdict tells the refusal by the records' order, then 7, then 8, or the task's response where its guest and all
-- above are fitted
abbrev pub TaskTells : Plan → ℕ → ℕ → Result TaskVerdict Refusal → Type 0
TaskTells p id number r =
    task_told r
    ≡ refuse_or refusing (records_then p (has_guest p id or_refuse 7 ∷ has_task p id number or_refuse 8 ∷ []))
    (saying (pick (fitted_to p (place_of p id)) (value_of (task_response p (place_of p id) (number - 1))) []))

-- accept tells the refusal by the records' order alone
abbrev pub PlanTells : Plan → Result Acceptance Refusal → Type 0
PlanTells p r = plan_told r ≡ refuse_or refusing (plan_refusal p) (saying [])
