-- Document 01's number and values for each case of an answer about a pair: the refusal, or what the answer about the
-- amended plan tells.
use Rattle.std.specs.Prelude.{◌≡◌, List, ℕ, Result}
use Rattle.plan.specs.Told.{refusing}
use Rattle.verdict.specs.declared.GuestVerdict.{GuestVerdict}
use Rattle.verdict.specs.declared.TaskVerdict.{TaskVerdict}
use Rattle.verdict.specs.declared.Acceptance.{Acceptance}
use Rattle.verdict.specs.Verdict.{guest_verdict, task_verdict, acceptance}
use Rattle.verdict.specs.Told.{guest_told, task_told, plan_told}
use Rattle.plan.specs.declared.Refusal.{Refusal}
use Rattle.capacity.specs.Answer.{smallest_capacity}
use Rattle.capacity.specs.Told.{capacity_told}
use Rattle.amendment.specs.Verdict.{pair_or}

-- `guest_verdict` tells the refusal, or the guest's response.
abbrev pub GuestTellsIn : (plan sheet : List ℕ) → (id : ℕ) → Result GuestVerdict Refusal → Type 0
GuestTellsIn plan sheet id r = guest_told r ≡ pair_or refusing plan sheet (λ p. guest_told (guest_verdict p id))

-- `task_verdict` tells the refusal, or the task's response.
abbrev pub TaskTellsIn : (plan sheet : List ℕ) → (id number : ℕ) → Result TaskVerdict Refusal → Type 0
TaskTellsIn plan sheet id number r = task_told r ≡ pair_or refusing plan sheet (λ p. task_told (task_verdict p id number))

-- `accept` tells the refusal.
abbrev pub PairTells : (plan sheet : List ℕ) → Result Acceptance Refusal → Type 0
PairTells plan sheet r = plan_told r ≡ pair_or refusing plan sheet (λ p. plan_told (acceptance p))

-- `smallest_capacity` tells the refusal, or the capacity.
abbrev pub CapacityTellsIn : (plan sheet : List ℕ) → (id : ℕ) → Result ℕ Refusal → Type 0
CapacityTellsIn plan sheet id r =
    capacity_told r ≡ pair_or refusing plan sheet (λ p. capacity_told (smallest_capacity p id))
