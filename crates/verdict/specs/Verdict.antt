-- The verdicts of a guest and of a task and the acceptance of a plan, each with its refusals in order.
use Rattle.std.specs.Prelude.{Bool, true, false, [], ◌∷◌, ℕ, ◌-◌, leb, Option, Some, None, Result}
use Rattle.lists.specs.Refusals.{◌or_refuse◌}
use Rattle.plan.specs.Records.{guest_at, deadline_of}
use Rattle.plan.specs.First.{unless_refused}
use Rattle.plan.specs.Order.{plan_refusal, records_then}
use Rattle.plan.specs.Place.{place_of, has_guest, has_task}
use Rattle.plan.specs.declared.Plan.{Plan}
use Rattle.plan.specs.declared.Refusal.{Refusal}
use Rattle.verdict.specs.declared.GuestVerdict.{GuestVerdict}
use Rattle.verdict.specs.declared.GuestVerdict.TheVariants.{Fitted, Unfit}
use Rattle.verdict.specs.declared.TaskVerdict.{TaskVerdict}
use Rattle.verdict.specs.declared.TaskVerdict.TheVariants.{Met, UnmetAt, Unmet, Unjudged}
use Rattle.verdict.specs.declared.Acceptance.{Acceptance}
use Rattle.verdict.specs.declared.Acceptance.TheVariants.{Accepted, NotAccepted}
use Rattle.response.specs.Guest.{guest_response, fitted_to}
use Rattle.response.specs.Task.{task_response}
use Rattle.response.specs.Met.{accepted}

-- a guest is fitted with its response, or unfit where it has none
abbrev pub guest_says : Option ℕ → GuestVerdict
guest_says (Some x) = Fitted x
guest_says None = Unfit

-- the verdict of a guest: the records' order, then 7
unfoldable pub guest_verdict : Plan → ℕ → Result GuestVerdict Refusal
guest_verdict p id =
    unless_refused (records_then p (has_guest p id or_refuse 7 ∷ [])) (guest_says (guest_response p (place_of p id)))

-- a response is quoted: met if it is at most the deadline, else unmet
unfoldable pub quoted_by : Bool → ℕ → TaskVerdict
quoted_by true r = Met r
quoted_by false r = UnmetAt r

-- a task is met or unmet with its response, unmet where it has none up to its period, and unjudged where its own
-- guest or one above is unfit
unfoldable pub task_says : Bool → (deadline : ℕ) → Option ℕ → TaskVerdict
task_says false deadline f = Unjudged
task_says true deadline (Some r) = quoted_by (leb r deadline) r
task_says true deadline None = Unmet

-- the verdict of a task: the records' order, then 7, then 8
unfoldable pub task_verdict : Plan → ℕ → ℕ → Result TaskVerdict Refusal
task_verdict p id number =
    unless_refused (records_then p (has_guest p id or_refuse 7 ∷ has_task p id number or_refuse 8 ∷ []))
    (task_says (fitted_to p (place_of p id)) (deadline_of (guest_at p.guests (place_of p id)) (number - 1))
    (task_response p (place_of p id) (number - 1)))

-- a plan is accepted, or it is not
unfoldable pub accept_says : Bool → Acceptance
accept_says true = Accepted
accept_says false = NotAccepted

-- the acceptance of a plan: the records' order
unfoldable pub acceptance : Plan → Result Acceptance Refusal
acceptance p = unless_refused (plan_refusal p) (accept_says (accepted p))
