-- What the entry promises: the whole answer, on refusals too.
use Rattle.std.specs.Prelude.{◌≡◌, ℕ, Result}
use Rattle.plan.specs.declared.Plan.{Plan}
use Rattle.plan.specs.declared.Refusal.{Refusal}
use Rattle.capacity.specs.Answer.{smallest_capacity}

-- smallest_capacity gives the guest's smallest capacity
abbrev pub Sized : Plan → ℕ → Result ℕ Refusal → Type 0
Sized p id r = r ≡ smallest_capacity p id
