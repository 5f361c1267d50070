-- The promise fixes the number and value that the answer's case sets out. Assumes nothing.
use Rattle.std.specs.Prelude.{Option, Some, None, is_some, Result}
use mathlib.Core.Path.{◌≡◌, refl, ap, ◌∙◌}
use mathlib.Core.Bool.{Bool, true, false}
use mathlib.Core.List.{[], ◌∷◌}
use Prim.Native.Nat.{ℕ, zero, suc}
use Rattle.lists.specs.Refusals.{unless, refusal, ◌or_refuse◌}
use Rattle.plan.specs.First.{refused, or_else, refused_by, refuse_or, unless_refused}
use Rattle.plan.specs.Order.{records_then}
use Rattle.plan.specs.Told.{refusing, saying, value_of}
use Rattle.plan.specs.Place.{place_of}
use Rattle.plan.specs.declared.Plan.{Plan}
use Rattle.plan.specs.declared.Refusal.{Refusal}
use Rattle.response.specs.Window.{ticks_of}
use Rattle.capacity.specs.Capacity.{smallest}
use Rattle.capacity.specs.Answer.{smallest_capacity}
use Rattle.capacity.specs.Promises.{Sized}
use Rattle.capacity.specs.Told.{capacity_told, CapacityTells}

-- 11 is the last of the tests, and fails where nothing was found
last_test : (x k : ℕ) (b : Bool) (f : Option ℕ)
    → (let r = or_else x k (refused (refusal (b or_refuse 7 ∷ is_some f or_refuse 11 ∷ [])) 0) in
    capacity_told (unless_refused r (ticks_of f)) ≡ refuse_or refusing r (saying (value_of f)))
unfolding capacity_told refused_by or_else refusal unless
last_test zero k true (Some c) = refl
last_test zero k true None = refl
last_test zero k false f = refl
last_test (suc x) k b f = refl

-- what smallest_capacity tells
pub capacity_told_lem : (p : Plan) (id : ℕ) (r : Result ℕ Refusal) → Sized p id r → CapacityTells p id r
unfolding smallest_capacity records_then
capacity_told_lem p id r e = ap capacity_told e ∙ last_test _ _ _ (smallest p (place_of p id))
