-- A plan with another guest at one of its places.
use Rattle.std.specs.Prelude.{ℕ, set}
use Rattle.plan.specs.declared.Guest.{Guest}
use Rattle.plan.specs.declared.Plan.{Plan}

-- The plan whose guest at place k is g, all others as they were.
unfoldable pub with_guest : Plan → ℕ → Guest → Plan
with_guest p k g = record { count = p.count; guests = set p.guests k g }
