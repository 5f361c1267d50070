-- What the crate's entries promise of a pair: the whole answer, on refusals too.
use Rattle.std.specs.Prelude.{◌≡◌, List, ℕ, Result}
use Rattle.verdict.specs.declared.GuestVerdict.{GuestVerdict}
use Rattle.verdict.specs.declared.TaskVerdict.{TaskVerdict}
use Rattle.verdict.specs.declared.Acceptance.{Acceptance}
use Rattle.plan.specs.declared.Refusal.{Refusal}
use Rattle.amendment.specs.declared.Located.{Located}
use Rattle.amendment.specs.Finder.{pair_place, pair_found}
use Rattle.amendment.specs.Verdict.{pair_guest_verdict, pair_task_verdict, pair_acceptance, pair_smallest}

-- `find_place` says where the guest's block stands, plan or sheet, or gives the refusal.
abbrev pub LocatesIn : (plan sheet : List ℕ) → (id : ℕ) → Located → Type 0
LocatesIn plan sheet id r = r ≡ pair_place plan sheet id

-- `find` hands back a part with these bytes.
abbrev pub FindsIn : (plan sheet : List ℕ) → (id : ℕ) → List ℕ → Type 0
FindsIn plan sheet id part = part ≡ pair_found plan sheet id

-- `guest_verdict` gives the guest's verdict in the amended plan.
abbrev pub GuestJudgedIn : (plan sheet : List ℕ) → (id : ℕ) → Result GuestVerdict Refusal → Type 0
GuestJudgedIn plan sheet id r = r ≡ pair_guest_verdict plan sheet id

-- `task_verdict` gives the task's.
abbrev pub TaskJudgedIn : (plan sheet : List ℕ) → (id number : ℕ) → Result TaskVerdict Refusal → Type 0
TaskJudgedIn plan sheet id number r = r ≡ pair_task_verdict plan sheet id number

-- `accept` gives the amended plan's acceptance.
abbrev pub AcceptsPair : (plan sheet : List ℕ) → Result Acceptance Refusal → Type 0
AcceptsPair plan sheet r = r ≡ pair_acceptance plan sheet

-- `smallest_capacity` gives the guest's smallest capacity in the amended plan.
abbrev pub SizedIn : (plan sheet : List ℕ) → (id : ℕ) → Result ℕ Refusal → Type 0
SizedIn plan sheet id r = r ≡ pair_smallest plan sheet id
