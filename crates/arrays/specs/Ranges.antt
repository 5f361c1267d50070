-- The ranges of the five numbers that a state holds, and that past guests and tasks they are 0.
use Rattle.std.specs.Prelude.{ℕ, Bool, ◌&&◌, ◌==◌, nat_le, nat_lt}
use Rattle.plan.specs.Ranges.{longest}

-- whether a guest's capacity left is 0 to C, and its position 0 to T - 1
abbrev pub server_ok : (capacity period left position : ℕ) → Bool
server_ok capacity period left position = nat_le left capacity && nat_lt position period

-- whether the two numbers of a place past the guests are 0
abbrev pub no_server : (left position : ℕ) → Bool
no_server left position = left == 0 && position == 0

-- whether a task's run left is at most the charged run, its wait at most the period, its age at most 1,000,000
abbrev pub job_ok : (charged every rest wait age : ℕ) → Bool
job_ok charged every rest wait age = nat_le rest charged && nat_le wait every && nat_le age longest

-- whether the three numbers of a place past the tasks are 0
abbrev pub no_job : (rest wait age : ℕ) → Bool
no_job rest wait age = rest == 0 && wait == 0 && age == 0
