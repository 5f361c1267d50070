-- What is kept of one guest and one of its tasks, over ticks and releases: the guest part, the task part and the clocks
-- together.
-- Inner: no promise of an entry names this.
use Rattle.std.specs.Prelude.{◌≡◌, Bool, ℕ, ◌≤◌, ◌<◌}
use Rattle.equation.specs.System.{System, right, response_of}
use Rattle.windows.specs.Equation.{system_at}
use Rattle.windows.specs.GuestTick.{GuestFits}
use Rattle.windows.specs.Supply.{Supply}
use Rattle.windows.specs.TaskTick.{Tasks, oldest}
use Rattle.windows.specs.Clock.{Clock}
use Rattle.windows.specs.Window.{Window}

-- The window w solves the equation of task i, and the response that w stands for is at most the task's period: so a job
-- is over when the next release is due.
pub record TaskSolved (S : System) (i w : ℕ) : Type 0 where
  pub some : 0 < w
  pub works : 0 < S.run i
  pub equal : w ≡ right S i w
  pub periods : (j : ℕ) → j < i → 0 < S.every j
  pub short : S.every i ≤ oldest
  pub in_period : response_of (S.gap i) w ≤ S.every i

-- Guest g is fitted with response x, and w solves the equation of its task i in time.
pub record Bounded (cap per : ℕ → ℕ) (g x : ℕ) (run every : ℕ → ℕ) (is_bound : ℕ → Bool) (i w : ℕ) : Type 0 where
  pub fitted : GuestFits cap per g x
  pub cap_per : cap g ≤ per g
  pub solves : TaskSolved (system_at cap per g run every is_bound) i w

-- The invariant of a state, seen from task i of guest g.
pub record Kept (cap per : ℕ → ℕ) (g x : ℕ) (run every : ℕ → ℕ) (is_bound : ℕ → Bool) (i w : ℕ)
    (held pos : ℕ → ℕ) (v : Tasks) : Type 0 where
  pub supply : Supply cap per g x held pos
  pub place : pos g < per g
  pub window : Window (system_at cap per g run every is_bound) is_bound i w (pos g) (held g) v
  pub clock : Clock i every v
