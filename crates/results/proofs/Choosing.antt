-- The numbers of a plan, chosen. `least_capacities p` is what the entry answers: a refusal and a plan. No guest of a plan
-- that may be started is Deferrable.
use mathlib.Core.Path.{◌≡◌}
use Prim.Native.Nat.{◌<◌}
use Rattle.plan.specs.Periodic.{start_refusal}
use Rattle.plan.specs.declared.Plan.{Plan}
use Rattle.choice.specs.Capacities.{answering, least_capacities}
use Rattle.choice_laws.specs.Capacities.{Chooses, LeastOfAll, NoChoice}
use Rattle.choice_laws.specs.Worked.{WorkedChoices}
use Rattle.choice_laws.proofs.Capacities as capacities
use Rattle.choice_laws.proofs.Worked as worked

-- What may not be started has the refusal of a start, and the plan comes back as it was.
pub not_started :
    (p : Plan)
    → 0 < (start_refusal p).number
    → least_capacities p ≡ answering p (start_refusal p).number (start_refusal p).place
not_started = capacities.not_started

module _ (p : Plan) (ok : (start_refusal p).number ≡ 0) where
  -- A choice that is not refused is accepted, and nothing but capacities is changed.
  pub chooses : (least_capacities p).refusal.number ≡ 0 → Chooses p
  chooses = capacities.chooses p ok

  -- In any choice of capacities at which the plan is accepted, no guest has less: the least in every place at once.
  pub least_of_all : LeastOfAll p
  least_of_all = capacities.least_of_all p ok

  -- It is refused exactly if no choice is accepted: where it is refused none is, and else the one chosen is.
  pub no_choice : 0 < (least_capacities p).refusal.number → NoChoice p
  no_choice = capacities.no_choice p ok

-- Plan A: 1 and 6 are enough where 2 and 8 are bought.
pub worked_choices : WorkedChoices
worked_choices = worked.worked
