-- What the acceptance of a plan says of the equations, and of the verdicts.
use Rattle.std.specs.Prelude.{◌≡◌, ℕ, suc, ◌<◌, Result, Ok, Err}
use Rattle.plan.specs.Records.{guest_at}
use Rattle.plan.specs.declared.Plan.{Plan}
use Rattle.plan.specs.declared.Refusal.{Refusal}
use Rattle.verdict.specs.declared.Acceptance.{Acceptance}
use Rattle.verdict.specs.declared.Acceptance.TheVariants.{Accepted, NotAccepted}
use Rattle.verdict.specs.Verdict.{task_verdict}
use Rattle.verdict.specs.declared.TaskVerdict.TheVariants.{Met}
use Rattle.verdict_laws.specs.Guests.{AllFit}
use Rattle.verdict_laws.specs.Tasks.{AllInTime}

-- all guests of a plan are fitted and all their tasks are met
pub record AllGood (p : Plan) : Type 0 where
  pub fitted : (k : ℕ) → k < p.count → AllFit p k
  pub met : (k : ℕ) → k < p.count → AllInTime p k

-- what an acceptance means where records are in order
abbrev pub AcceptMeans : Plan → Result Acceptance Refusal → Type 0
AcceptMeans p (Err refusal) = ⊥
AcceptMeans p (Ok Accepted) = AllGood p
AcceptMeans p (Ok NotAccepted) = ¬ AllGood p

-- the verdict of each task of each guest is met
abbrev pub AllSaidMet : Plan → Type 0
AllSaidMet p = (k : ℕ) → k < p.count → (i : ℕ) → i < (guest_at p.guests k).tasks
    → (r : ℕ) × (task_verdict p (guest_at p.guests k).id (suc i) ≡ Ok (Met r))
