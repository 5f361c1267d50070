-- What the guests above take from a window.
use Rattle.std.specs.Prelude.{ℕ, ◌-◌}
use Rattle.lists.specs.Choice.{pick}
use Rattle.rounding.specs.Asked.{asked}
use Rattle.plan.specs.Records.{guest_at}
use Rattle.plan.specs.Server.{is_deferrable}
use Rattle.plan.specs.declared.Guest.{Guest}
use Rattle.plan.specs.declared.Plan.{Plan}

-- how far a guest's capacity can be put off: by T - C where it is a Deferrable Server, else not at all
unfoldable pub jitter : Guest → ℕ
jitter g = pick (is_deferrable g) (g.period - g.capacity) 0

-- the sum over the guests above place k of ((v + their jitter) / their period, rounded up) times their capacity
unfoldable pub interference : Plan → ℕ → ℕ → ℕ
interference p k =
    asked (λ j. (guest_at p.guests j).capacity) (λ j. (guest_at p.guests j).period)
    (λ j. jitter (guest_at p.guests j)) k
