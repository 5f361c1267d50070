-- The way in of each call that names a guest. Inner: no promise of an entry names this.
use Rattle.std.specs.Prelude.{◌≡◌, [], ◌∷◌, ℕ, Result}
use Rattle.lists.specs.Refusals.{◌or_refuse◌}
use Rattle.plan.specs.declared.Plan.{Plan}
use Rattle.plan.specs.declared.Refusal.{Refusal}
use Rattle.plan.specs.First.{unless_refused}
use Rattle.plan.specs.Order.{records_then}
use Rattle.plan.specs.Place.{place_of, has_guest}

-- the refusal by the records' order and then 7, and where there is none the guest's place
abbrev pub LooksUp : Plan → (id : ℕ) → Result ℕ Refusal → Type 0
LooksUp p id r = r ≡ unless_refused (records_then p (has_guest p id or_refuse 7 ∷ [])) (place_of p id)
