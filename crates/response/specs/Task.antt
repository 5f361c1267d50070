-- The task's equation and its response: which numbers of the records the functions of the equation are.
use Rattle.std.specs.Prelude.{ℕ, ◌-◌, Option}
use Rattle.equation.specs.System.{System, gap_for, right, task_under}
use Rattle.plan.specs.Records.{guest_at, every_of}
use Rattle.plan.specs.Charge.{charged}
use Rattle.plan.specs.Marks.{is_bound}
use Rattle.plan.specs.declared.Guest.{Guest}
use Rattle.plan.specs.declared.Plan.{Plan}
use Rattle.response.specs.Interference.{interference}

-- a task's J, the first gap that a release can meet: 0 of a bound task, else T - C of its guest
unfoldable pub gap : Guest → ℕ → ℕ
gap g i = gap_for (is_bound g i) (g.period - g.capacity)

-- a guest seen from its tasks, under guests that take `above v` from v ticks: each task loads with its charged run, its
-- period and its J
abbrev pub system_of : (above : ℕ → ℕ) → Guest → System
system_of above g = record {
  capacity = g.capacity;
  period = g.period;
  above = above;
  run = charged g;
  every = every_of g;
  gap = gap g;
}

-- the guest at place k of a plan, seen from its tasks
abbrev pub system_in : Plan → ℕ → System
system_in p k = system_of (interference p k) (guest_at p.guests k)

-- the right side of the task's equation
unfoldable pub task_right : Plan → ℕ → ℕ → ℕ → ℕ
task_right p k i w = right (system_in p k) i w

-- w + J for the least window w that is its own right side, where w + J is at most `most`
unfoldable pub response_to : Plan → ℕ → ℕ → (most : ℕ) → Option ℕ
response_to p k i most = task_under (system_in p k) i most

-- the response that is quoted is looked for up to the task's period
unfoldable pub limit : Guest → ℕ → ℕ
limit g i = every_of g i

-- the task's response
unfoldable pub task_response : Plan → ℕ → ℕ → Option ℕ
task_response p k i = response_to p k i (limit (guest_at p.guests k) i)
