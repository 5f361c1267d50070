-- Records handed over as a plan: 1, then 4 and 6 guest by guest.
use Rattle.std.specs.Prelude.{Bool, true, false, not, ◌&&◌, List, [], ◌∷◌, ℕ, eqb}
use Rattle.lists.specs.All.{all_to}
use Rattle.lists.specs.Refusals.{Test, refusal, ◌or_refuse◌}
use Rattle.plan.specs.declared.Guest.{Guest}
use Rattle.plan.specs.declared.Plan.{Plan}
use Rattle.plan.specs.declared.Refusal.{Refusal}
use Rattle.plan.specs.Records.{guest_at}
use Rattle.plan.specs.Ranges.{most_guests, within, guest_ok, tasks_ok}
use Rattle.plan.specs.First.{refused, or_else, first_refused}

-- the id at place k stands at no earlier place
unfoldable pub new_id : (ℕ → ℕ) → ℕ → Bool
new_id id k = all_to (λ j. not (eqb (id j) (id k))) k

-- the number that a guest is refused by, 0 for none; `new` says that its id stands at no earlier place
unfoldable pub number_of : Guest → (new : Bool) → ℕ
number_of g new = refusal ((guest_ok g && new) or_refuse 4 ∷ tasks_ok g or_refuse 6 ∷ [])

-- the number that the guest at place k is refused by
unfoldable pub guest_number : List Guest → ℕ → ℕ
guest_number gs k = number_of (guest_at gs k) (new_id (λ j. (guest_at gs j).id) k)

-- the records' refusal, by whether the count is 1 to 8
unfoldable pub counted_by : Bool → Plan → Refusal
counted_by false p = refused 1 0
counted_by true p = first_refused (guest_number p.guests) p.count 0

-- the records' refusal: 1, then 4 and 6 guest by guest
unfoldable pub plan_refusal : Plan → Refusal
plan_refusal p = counted_by (within 1 most_guests p.count) p

-- the records' refusal, else that of the first of these tests to fail, whose place is 0
unfoldable pub records_then : Plan → List Test → Refusal
records_then p tests = or_else (plan_refusal p).number (plan_refusal p).place (refused (refusal tests) 0)
