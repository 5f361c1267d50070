-- The guest's equation and its response.
use Rattle.std.specs.Prelude.{Bool, ℕ, suc, Option, is_some}
use Rattle.lists.specs.All.{all_to}
use Rattle.equation.specs.Guest.{guest_side, guest_under}
use Rattle.plan.specs.Records.{guest_at}
use Rattle.plan.specs.declared.Plan.{Plan}
use Rattle.response.specs.Interference.{interference}

-- the right side of the guest's equation: its capacity and what the guests above take
unfoldable pub guest_right : Plan → ℕ → ℕ → ℕ
guest_right p k x = guest_side (interference p k) (guest_at p.guests k).capacity x

-- the guest's response: the least x from 1 to its period that is its own right side
unfoldable pub guest_response : Plan → ℕ → Option ℕ
guest_response p k = guest_under (interference p k) (guest_at p.guests k).capacity (guest_at p.guests k).period

-- a guest is fitted if it has a response, also under an unfit guest
unfoldable pub fitted : Plan → ℕ → Bool
fitted p k = is_some (guest_response p k)

-- whether the guest at place k and all above are fitted
unfoldable pub fitted_to : Plan → ℕ → Bool
fitted_to p k = all_to (fitted p) (suc k)
