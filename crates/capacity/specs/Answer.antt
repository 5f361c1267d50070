-- The answer for a guest's id, with its refusals in order.
use Rattle.std.specs.Prelude.{[], ◌∷◌, ℕ, Option, is_some, Result}
use Rattle.std.specs.Option.{ok_or}
use Rattle.lists.specs.Refusals.{◌or_refuse◌}
use Rattle.plan.specs.First.{refused, unless_refused}
use Rattle.plan.specs.Order.{records_then}
use Rattle.plan.specs.Place.{place_of, has_guest}
use Rattle.plan.specs.declared.Plan.{Plan}
use Rattle.plan.specs.declared.Refusal.{Refusal}
use Rattle.response.specs.Window.{ticks_of}
use Rattle.capacity.specs.Capacity.{smallest}

-- the answer for what the search finds: the capacity, or 11 where none works
abbrev pub capacity_says : Option ℕ → Result ℕ Refusal
capacity_says found = ok_or found (refused 11 0)

-- the smallest capacity of a guest: the records' order, then 7, then 11 where none works
unfoldable pub smallest_capacity : Plan → ℕ → Result ℕ Refusal
smallest_capacity p id =
    let found = smallest p (place_of p id) in
    unless_refused (records_then p (has_guest p id or_refuse 7 ∷ is_some found or_refuse 11 ∷ [])) (ticks_of found)
