-- The least capacities of a plan: from the highest guest down each is the smallest that works, under those above at
-- theirs.
use Rattle.std.specs.Prelude.{◌≡◌, [], ◌∷◌, ℕ, zero, suc, Some, None, Result, Ok, Err}
use Rattle.lists.specs.Refusals.{◌or_refuse◌}
use Rattle.plan.specs.First.{refused, refuse_or}
use Rattle.plan.specs.Order.{records_then}
use Rattle.plan.specs.Periodic.{all_periodic}
use Rattle.plan.specs.declared.Plan.{Plan}
use Rattle.plan.specs.declared.Refusal.{Refusal}
use Rattle.capacity.specs.Capacity.{with_capacity, smallest}
use Rattle.choice.specs.declared.Chosen.{Chosen}

-- an answer: the refusal's number, 0 for none, and its place, and the plan that comes back
abbrev pub answering : Plan → (number place : ℕ) → Chosen
answering p number place = record { refusal = refused number place; plan = p }

-- The plan p with the m guests from place k on at their smallest capacities, one after the other; where none works for
-- one of them, 11 with its place, and the plan as it was given.
unfoldable pub chosen_from : (given p : Plan) → (m k : ℕ) → Chosen
chosen_from given p zero k = answering p 0 0
chosen_from given p (suc m) k =
    elim (smallest p k) [
      | Some c ↦ chosen_from given (with_capacity p k c) m (suc k)
      | None ↦ answering given 11 k
    ]

-- The least capacities: the records' order, then 23 for a Deferrable guest, then 11 with the place of the first guest at
-- which none works, each with the plan as it was; else the plan with them.
unfoldable pub least_capacities : Plan → Chosen
least_capacities p = refuse_or (answering p) (records_then p (all_periodic p or_refuse 23 ∷ [])) (chosen_from p p p.count 0)

-- What a choice comes to: the plan with the least capacities, or the refusal.
abbrev pub ComesTo : Plan → Result Plan Refusal → Type 0
ComesTo p (Ok q) = answering q 0 0 ≡ least_capacities p
ComesTo p (Err r) = answering p r.number r.place ≡ least_capacities p
