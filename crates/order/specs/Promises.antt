-- What the entry promises: the whole answer, on refusals too.
use Rattle.std.specs.Prelude.{◌≡◌, ℕ}
use Rattle.plan.specs.declared.Plan.{Plan}
use Rattle.order.specs.declared.Ordered.{Ordered}
use Rattle.order.specs.Proposed.{proposed}

-- The entry `propose` gives the order proposed for the guest's tasks.
abbrev pub Orders : Plan → (id : ℕ) → Ordered → Type 0
Orders p id r = r ≡ proposed p id
