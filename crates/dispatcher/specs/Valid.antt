-- Refusal 14: a state whose plan fails the records' order or holds a Deferrable guest, so that no start gives it, or with
-- a number outside its range, or with anything but 0 past its guests and tasks. Where the ticks went is not looked at.
use Rattle.std.specs.Prelude.{Bool, ◌&&◌, ℕ, ltb, eqb}
use Rattle.lists.specs.Choice.{pick}
use Rattle.lists.specs.Places.{nth}
use Rattle.lists.specs.All.{all_to}
use Rattle.plan.specs.Records.{every_of}
use Rattle.plan.specs.Ranges.{most_guests, most_tasks}
use Rattle.plan.specs.Charge.{charged}
use Rattle.plan.specs.Periodic.{start_refusal}
use Rattle.arrays.specs.Ranges.{server_ok, no_server, job_ok, no_job}
use Rattle.dispatcher.specs.declared.Dispatcher.{Dispatcher}
use Rattle.dispatcher.specs.State.{guest_in, rest_at, wait_at, age_at}

-- how many tasks guest k has; none past the guests
unfoldable pub tasks_in : Dispatcher → ℕ → ℕ
tasks_in d k = pick (ltb k d.plan.count) (guest_in d k).tasks 0

-- whether the two numbers of guest k are in their ranges
unfoldable pub guest_in_range : Dispatcher → ℕ → Bool
guest_in_range d k =
    pick (ltb k d.plan.count)
    (server_ok (guest_in d k).capacity (guest_in d k).period (nth d.left k) (nth d.position k))
    (no_server (nth d.left k) (nth d.position k))

-- whether the three numbers of task t of guest k are in their ranges
unfoldable pub task_in_range : Dispatcher → ℕ → ℕ → Bool
task_in_range d k t =
    pick (ltb t (tasks_in d k))
    (job_ok (charged (guest_in d k) t) (every_of (guest_in d k) t) (rest_at d k t) (wait_at d k t) (age_at d k t))
    (no_job (rest_at d k t) (wait_at d k t) (age_at d k t))

-- whether all numbers of guest k are in their ranges
unfoldable pub row_ok : Dispatcher → ℕ → Bool
row_ok d k = guest_in_range d k && all_to (task_in_range d k) most_tasks

-- whether the state is in its ranges, so that 14 is not given
unfoldable pub state_ok : Dispatcher → Bool
state_ok d = eqb (start_refusal d.plan).number 0 && all_to (row_ok d) most_guests
