-- Whether tasks are met, where their guest and all above are fitted.
use Rattle.std.specs.Prelude.{Bool, ◌&&◌, ℕ, is_some}
use Rattle.lists.specs.All.{all_to}
use Rattle.plan.specs.Records.{guest_at, deadline_of}
use Rattle.plan.specs.declared.Plan.{Plan}
use Rattle.response.specs.Guest.{fitted}
use Rattle.response.specs.Task.{response_to}

-- a task of the guest at place k is met, where that guest and all above are fitted, if it has a response of at most the
-- deadline
unfoldable pub met : Plan → ℕ → ℕ → Bool
met p k i = is_some (response_to p k i (deadline_of (guest_at p.guests k) i))

-- all tasks of the guest at place k are met, where it and all above are fitted
unfoldable pub all_met : Plan → ℕ → Bool
all_met p k = all_to (met p k) (guest_at p.guests k).tasks

-- a plan is accepted if all guests are fitted and all tasks met
unfoldable pub accepted : Plan → Bool
accepted p = all_to (fitted p) p.count && all_to (all_met p) p.count
