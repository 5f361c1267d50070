-- Fresh start: no job, no wait and no age in any of the 128 places, all positions 0, no capacity left, no tick counted,
-- and the records as handed over.
use Rattle.std.specs.Prelude.{ℕ, zero, suc, replicate}
use Rattle.plan.specs.declared.Plan.{Plan}
use Rattle.plan.specs.Records.{blank_plan}
use Rattle.plan.specs.Periodic.{start_refusal}
use Rattle.dispatcher.specs.declared.Dispatcher.{Dispatcher}
use Rattle.dispatcher.specs.declared.Started.{Started}

-- the fresh state of a plan
unfoldable pub idle : Plan → Dispatcher
idle p =
    record {
      plan = p;
      left = replicate 8 0;
      position = replicate 8 0;
      rest = replicate 128 0;
      wait = replicate 128 0;
      age = replicate 128 0;
      usage = replicate 17 0;
    }

-- the start by the number that it is refused by: a refused one is zero throughout, guest count included
unfoldable pub started_by : ℕ → Plan → Dispatcher
started_by zero p = idle p
started_by (suc n) p = idle blank_plan

-- the same of a state whose plan stands there already: a refused start leaves it as it is
unfoldable pub started_in : ℕ → Dispatcher → Dispatcher
started_in zero d = idle d.plan
started_in (suc n) d = d

-- a fresh start: the records' order, then 23, then the fresh state
unfoldable pub fresh : Plan → Started
fresh p = record { refusal = start_refusal p; state = started_by (start_refusal p).number p }
