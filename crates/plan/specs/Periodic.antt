-- Plans without a Deferrable guest: these alone are dispatched, and every plan has one with the same numbers.
use Rattle.std.specs.Prelude.{Bool, [], ◌∷◌, map}
use Rattle.lists.specs.All.{all_to}
use Rattle.lists.specs.Refusals.{◌or_refuse◌}
use Rattle.plan.specs.declared.Plan.{Plan}
use Rattle.plan.specs.declared.Refusal.{Refusal}
use Rattle.plan.specs.Records.{guest_at}
use Rattle.plan.specs.Server.{is_periodic, as_periodic}
use Rattle.plan.specs.Order.{records_then}

-- whether each guest of a plan is Periodic
unfoldable pub all_periodic : Plan → Bool
all_periodic p = all_to (λ k. is_periodic (guest_at p.guests k)) p.count

-- the refusal of a fresh start: the records' order, then 23
unfoldable pub start_refusal : Plan → Refusal
start_refusal p = records_then p (all_periodic p or_refuse 23 ∷ [])

-- the plan with every Deferrable guest made Periodic
unfoldable pub converted : Plan → Plan
converted p = record { count = p.count; guests = map as_periodic p.guests }
