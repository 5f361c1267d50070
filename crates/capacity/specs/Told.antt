-- Document 01's number and value for each case of the answer, and what the entry's answer tells by it.
use Rattle.std.specs.Prelude.{◌≡◌, [], ◌∷◌, ℕ, is_some, Result, Ok, Err}
use Rattle.lists.specs.Refusals.{◌or_refuse◌}
use Rattle.plan.specs.First.{refuse_or}
use Rattle.plan.specs.Order.{records_then}
use Rattle.plan.specs.Place.{place_of, has_guest}
use Rattle.plan.specs.Told.{Told, refusing, saying, value_of}
use Rattle.plan.specs.declared.Plan.{Plan}
use Rattle.plan.specs.declared.Refusal.{Refusal}
use Rattle.capacity.specs.Capacity.{smallest}

-- the smallest capacity is the value
unfoldable pub capacity_told : Result ℕ Refusal → Told
capacity_told (Err r) = refusing r.number r.place
capacity_told (Ok c) = saying (c ∷ [])

-- smallest_capacity tells the refusal by the records' order, then 7, then 11, or the guest's smallest capacity
abbrev pub CapacityTells : Plan → ℕ → Result ℕ Refusal → Type 0
CapacityTells p id r =
    let found = smallest p (place_of p id) in
    capacity_told r ≡ refuse_or refusing (records_then p (has_guest p id or_refuse 7 ∷ is_some found or_refuse 11 ∷ []))
    (saying (value_of found))
