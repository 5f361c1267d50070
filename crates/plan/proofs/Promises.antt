-- What each promise permits is one outcome. Assumes nothing.
use mathlib.Core.Path.{◌≡◌, sym, ◌∙◌}
use Rattle.std.specs.Prelude.{Result}
use Rattle.plan.specs.declared.Plan.{Plan}
use Rattle.plan.specs.declared.Refusal.{Refusal}
use Rattle.plan.specs.Promises.{Checks}

-- two values that equal a third are one: the law behind every promise
pub one_outcome : {A : Type 0} {x r s : A} → r ≡ x → s ≡ x → r ≡ s
one_outcome p q = p ∙ sym q

-- check has one outcome
pub checks_once : (p : Plan) (r s : Result Unit Refusal) → Checks p r → Checks p s → r ≡ s
checks_once p r s = one_outcome
