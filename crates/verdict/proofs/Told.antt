-- Each promise fixes the number and values that the verdict's case sets out. Assumes nothing.
use Rattle.std.specs.Prelude.{Option, Some, None, Result, Ok, Err}
use mathlib.Core.Path.{◌≡◌, refl, ap, ◌∙◌}
use mathlib.Core.Bool.{Bool, true, false}
use mathlib.Core.List.{[]}
use Prim.Native.Nat.{ℕ, zero, suc}
use lib.Dec.{leb}
use Rattle.lists.specs.Choice.{pick}
use Rattle.plan.specs.First.{refused, refused_by, refuse_or, refused_or, unless_refused}
use Rattle.plan.specs.Told.{Told, refusing, saying, value_of}
use Rattle.plan.specs.Place.{place_of}
use Rattle.plan.specs.declared.Plan.{Plan}
use Rattle.plan.specs.declared.Refusal.{Refusal}
use Rattle.response.specs.Guest.{guest_response}
use Rattle.response.specs.Met.{accepted}
use Rattle.verdict.specs.declared.GuestVerdict.{GuestVerdict}
use Rattle.verdict.specs.declared.TaskVerdict.{TaskVerdict}
use Rattle.verdict.specs.declared.Acceptance.{Acceptance}
use Rattle.verdict.specs.Verdict.{guest_says, guest_verdict, quoted_by, task_says, task_verdict, accept_says, acceptance}
use Rattle.verdict.specs.Promises.{GuestJudged, TaskJudged, Accepts}
use Rattle.verdict.specs.Told.{guest_told, task_told, plan_told, GuestTells, TaskTells, PlanTells}

-- what an outcome tells is the refusal, or else what the answer tells
pub outcome_told : {A : Type 0} (told : Result A Refusal → Told)
    → ((r : Refusal) → told (Err r) ≡ refusing r.number r.place)
    → (r : Refusal) {v : A} {u : Told} → told (Ok v) ≡ u → told (unless_refused r v) ≡ refuse_or refusing r u
unfolding refused_by
outcome_told {A} told refuses r e = by r.number r.place e
  where
    by : (n k : ℕ) {v : A} {u : Told} → told (Ok v) ≡ u → told (refused_or n k v) ≡ refused_by refusing n k u
    by zero k e = e
    by (suc n) k e = refuses (refused (suc n) k)

-- a guest's response is the value
guest_value : (f : Option ℕ) → guest_told (Ok (guest_says f)) ≡ saying (value_of f)
unfolding guest_told
guest_value (Some x) = refl
guest_value None = refl

-- a response that is quoted is the value, met or unmet
quoted_value : (b : Bool) (r : ℕ) → task_told (Ok (quoted_by b r)) ≡ saying (value_of (Some r))
unfolding task_told quoted_by
quoted_value true r = refl
quoted_value false r = refl

-- a task's response is the value, and an unjudged task has none
task_value : (b : Bool) (deadline : ℕ) (f : Option ℕ)
    → task_told (Ok (task_says b deadline f)) ≡ saying (pick b (value_of f) [])
unfolding task_told task_says
task_value false deadline f = refl
task_value true deadline (Some r) = quoted_value (leb r deadline) r
task_value true deadline None = refl

-- an acceptance has no value
plan_value : (b : Bool) → plan_told (Ok (accept_says b)) ≡ saying []
unfolding plan_told accept_says
plan_value true = refl
plan_value false = refl

-- what guest_verdict tells
pub guest_told_lem : (p : Plan) (id : ℕ) (r : Result GuestVerdict Refusal) → GuestJudged p id r → GuestTells p id r
unfolding guest_verdict guest_told
guest_told_lem p id r e =
    ap guest_told e ∙ outcome_told guest_told (λ r. refl) _ (guest_value (guest_response p (place_of p id)))

-- what task_verdict tells
pub task_told_lem : (p : Plan) (id number : ℕ) (r : Result TaskVerdict Refusal) → TaskJudged p id number r
    → TaskTells p id number r
unfolding task_verdict task_told
task_told_lem p id number r e = ap task_told e ∙ outcome_told task_told (λ r. refl) _ (task_value _ _ _)

-- what accept tells
pub plan_told_lem : (p : Plan) (r : Result Acceptance Refusal) → Accepts p r → PlanTells p r
unfolding acceptance plan_told
plan_told_lem p r e = ap plan_told e ∙ outcome_told plan_told (λ r. refl) _ (plan_value (accepted p))
