-- A guest's place in the plan, by its id, and whether it and its task are there: what refusals 7 and 8 ask.
use Rattle.std.specs.Prelude.{Bool, ℕ, ltb, eqb}
use Rattle.lists.specs.Search.{first_from}
use Rattle.plan.specs.declared.Plan.{Plan}
use Rattle.plan.specs.Records.{guest_at}
use Rattle.plan.specs.Ranges.{within}

-- the first place whose guest has the id, or the count where there is none
unfoldable pub place_of : Plan → ℕ → ℕ
place_of p id = first_from (λ k. eqb (guest_at p.guests k).id id) p.count 0

-- whether the plan has a guest of that id
unfoldable pub has_guest : Plan → ℕ → Bool
has_guest p id = ltb (place_of p id) p.count

-- whether a guest with so many tasks has one of that number, from 1
abbrev pub has_number : (tasks number : ℕ) → Bool
has_number tasks number = within 1 tasks number

-- whether the guest of that id has a task of that number
unfoldable pub has_task : Plan → (id number : ℕ) → Bool
has_task p id number = has_number (guest_at p.guests (place_of p id)).tasks number
