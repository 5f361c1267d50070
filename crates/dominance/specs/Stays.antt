-- What stays of a plan's verdicts in another plan: p is the plan before, and q the one after.
use Rattle.std.specs.Prelude.{◌≡◌, ℕ, ◌≤◌, Ok}
use Rattle.plan.specs.declared.Plan.{Plan}
use Rattle.verdict.specs.Quoted.{Quoted}
use Rattle.verdict.specs.Verdict.{guest_verdict, task_verdict, acceptance}
use Rattle.verdict.specs.declared.Acceptance.TheVariants.{Accepted}
use Rattle.verdict.specs.declared.GuestVerdict.TheVariants.{Fitted}
use Rattle.verdict.specs.declared.TaskVerdict.TheVariants.{Met}

-- There is a number after of which this is said, no larger than the one before.
abbrev pub NoLarger : (said : ℕ → Type 0) → (before : ℕ) → Type 0
NoLarger said before = (after : ℕ) × (said after × (after ≤ before))

-- Every guest that was fitted stays so, with a response no larger.
abbrev pub FittedStays : (p q : Plan) → Type 0
FittedStays p q = (id x : ℕ) → guest_verdict p id ≡ Ok (Fitted x) → NoLarger (λ y. guest_verdict q id ≡ Ok (Fitted y)) x

-- Every task that was met stays so, with a response no larger.
abbrev pub MetStays : (p q : Plan) → Type 0
MetStays p q = (id number R : ℕ)
    → task_verdict p id number ≡ Ok (Met R)
    → NoLarger (λ S. task_verdict q id number ≡ Ok (Met S)) R

-- Every task that was quoted a response, met or unmet, is quoted one no larger.
abbrev pub QuotedStays : (p q : Plan) → Type 0
QuotedStays p q = (id number R : ℕ) → Quoted p id number R → NoLarger (λ S. Quoted q id number S) R

-- A plan that was accepted stays so.
abbrev pub AcceptedStays : (p q : Plan) → Type 0
AcceptedStays p q = acceptance p ≡ Ok Accepted → acceptance q ≡ Ok Accepted
