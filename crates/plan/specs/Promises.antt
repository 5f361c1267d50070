-- What the crate's entries promise.
use Rattle.std.specs.Prelude.{◌≡◌, Result}
use Rattle.plan.specs.declared.Plan.{Plan}
use Rattle.plan.specs.declared.Refusal.{Refusal}
use Rattle.plan.specs.First.{unless_refused}
use Rattle.plan.specs.Order.{plan_refusal}

-- check gives the records' refusal, where there is one
abbrev pub Checks : Plan → Result Unit Refusal → Type 0
Checks p r = r ≡ unless_refused (plan_refusal p) tt
