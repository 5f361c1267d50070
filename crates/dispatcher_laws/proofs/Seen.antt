-- What the windows see of a plan and of the dispatcher's state. Assumes nothing.
use mathlib.Core.Path.{◌≡◌}
use Prim.Native.Nat.{ℕ, ◌≤◌, ◌<◌}
use lib.Dec.{eqb}
use lib.ListN.{length}
use Rattle.lists.specs.Choice.{pick}
use Rattle.lists.specs.Places.{nth}
use Rattle.plan.specs.declared.Plan.{Plan}
use Rattle.plan.specs.Records.{guest_at, every_of}
use Rattle.plan.specs.Charge.{charged}
use Rattle.dispatcher.specs.declared.Dispatcher.{Dispatcher}
use Rattle.dispatcher.specs.State.{guest_in, rest_at, wait_at, age_at}
use Rattle.windows.specs.TaskTick.{Tasks}

-- the capacity of guest k
abbrev pub cap_of : Plan → ℕ → ℕ
cap_of p k = (guest_at p.guests k).capacity

-- the period of guest k
abbrev pub per_of : Plan → ℕ → ℕ
per_of p k = (guest_at p.guests k).period

-- the charged run of task j of guest g
abbrev pub run_in : Plan → ℕ → ℕ → ℕ
run_in p g j = charged (guest_at p.guests g) j

-- the period of task j of guest g
abbrev pub every_in : Plan → ℕ → ℕ → ℕ
every_in p g j = every_of (guest_at p.guests g) j

-- the position of guest k
abbrev pub pos_at : Dispatcher → ℕ → ℕ
pos_at d k = nth d.position k

-- the capacity left of guest k
abbrev pub left_at : Dispatcher → ℕ → ℕ
left_at d k = nth d.left k

-- the capacity left of guest k once those at position 0 are filled
abbrev pub held_at : Dispatcher → ℕ → ℕ
held_at d k = pick (eqb (pos_at d k) 0) (guest_in d k).capacity (left_at d k)

-- the run left, wait and age of each task of guest g
abbrev pub tasks_at : Dispatcher → ℕ → Tasks
tasks_at d g = record { rest = rest_at d g; wait = wait_at d g; age = age_at d g }

-- The lists have their lengths, the counts their ranges, and every position lies in its period.
pub record Shaped (d : Dispatcher) : Type 0 where
  pub few : d.plan.count ≤ 8
  pub tasks : (k : ℕ) → k < d.plan.count → (guest_in d k).tasks ≤ 16
  pub places : (k : ℕ) → k < d.plan.count → pos_at d k < (guest_in d k).period
  pub left_long : length d.left ≡ 8
  pub position_long : length d.position ≡ 8
  pub rest_long : length d.rest ≡ 128
  pub wait_long : length d.wait ≡ 128
  pub age_long : length d.age ≡ 128
