-- What the crate's entries promise.
use Rattle.std.specs.Prelude.{◌≡◌, List, ℕ, Result}
use Rattle.plan.specs.declared.Plan.{Plan}
use Rattle.plan.specs.declared.Refusal.{Refusal}
use Rattle.plan.specs.First.{unless_refused}
use Rattle.planfile.specs.Records.{read_of}
use Rattle.planfile.specs.Finder.{found_place, found}

-- `read` gives the refusal, where there is one, or else the plan's records.
abbrev pub Reads : List ℕ → Result Plan Refusal → Type 0
Reads s r = r ≡ unless_refused (read_of s).refusal (read_of s).plan

-- `find` hands back a part with these bytes.
abbrev pub Finds : List ℕ → (id : ℕ) → List ℕ → Type 0
Finds s id part = part ≡ found s id

-- `find_place` gives the refusal, where there is one, or else the found block's place.
abbrev pub FindsPlace : List ℕ → (id : ℕ) → Result ℕ Refusal → Type 0
FindsPlace s id r = r ≡ unless_refused (found_place s id) (found_place s id).place
