-- What a guest's verdict says of its equation.
use Rattle.std.specs.Prelude.{◌≡◌, ℕ, ◌≤◌, ◌<◌, Result, Ok, Err}
use Rattle.plan.specs.Order.{plan_refusal}
use Rattle.plan.specs.Records.{guest_at}
use Rattle.plan.specs.declared.Plan.{Plan}
use Rattle.plan.specs.declared.Refusal.{Refusal}
use Rattle.response.specs.Guest.{guest_right}
use Rattle.verdict.specs.declared.GuestVerdict.{GuestVerdict}
use Rattle.verdict.specs.declared.GuestVerdict.TheVariants.{Fitted, Unfit}

-- records in order, whose guest at place k has the id
pub record There (p : Plan) (id k : ℕ) : Type 0 where
  pub order : (plan_refusal p).number ≡ 0
  pub place : k < p.count
  pub named : (guest_at p.guests k).id ≡ id

-- x solves the guest's equation, from 1 to its period
pub record GuestSolves (p : Plan) (k x : ℕ) : Type 0 where
  pub low : 1 ≤ x
  pub high : x ≤ (guest_at p.guests k).period
  pub solves : x ≡ guest_right p k x

-- x is the least number from 1 to the period that solves the guest's equation
pub record Responds (p : Plan) (k x : ℕ) : Type 0 where
  pub fits : GuestSolves p k x
  pub least : (z : ℕ) → z < x → ¬ GuestSolves p k z

-- no number from 1 to the period solves the guest's equation
abbrev pub NoneFits : Plan → ℕ → Type 0
NoneFits p k = (x : ℕ) → ¬ GuestSolves p k x

-- each of the guests down to place k has a solution
abbrev pub AllFit : Plan → ℕ → Type 0
AllFit p k = (j : ℕ) → j ≤ k → (x : ℕ) × GuestSolves p j x

-- what a verdict means where records are in order and the guest is there
abbrev pub GuestMeans : Plan → ℕ → Result GuestVerdict Refusal → Type 0
GuestMeans p k (Err refusal) = ⊥
GuestMeans p k (Ok (Fitted x)) = Responds p k x
GuestMeans p k (Ok Unfit) = NoneFits p k
