-- What each promise permits is one outcome. Assumes nothing.
use mathlib.Core.Path.{◌≡◌}
use Rattle.plan.specs.declared.Plan.{Plan}
use Rattle.choice.specs.declared.Chosen.{Chosen}
use Rattle.choice.specs.Promises.{ChoosesCapacities}
use Rattle.plan.proofs.Promises.{one_outcome}

-- The entry `least_capacities` has one outcome.
pub chooses_capacities_once : (p : Plan) (r s : Chosen) → ChoosesCapacities p r → ChoosesCapacities p s → r ≡ s
chooses_capacities_once p r s = one_outcome
