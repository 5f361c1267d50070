-- What the entries promise: the whole answer, on refusals too.
use Rattle.std.specs.Prelude.{◌≡◌}
use Rattle.plan.specs.declared.Plan.{Plan}
use Rattle.choice.specs.declared.Chosen.{Chosen}
use Rattle.choice.specs.Capacities.{least_capacities}

-- The entry `least_capacities` gives the least capacities.
abbrev pub ChoosesCapacities : Plan → Chosen → Type 0
ChoosesCapacities p r = r ≡ least_capacities p
