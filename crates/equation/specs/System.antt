-- The equation of a task, over functions of a place. The records of a plan, the columns that the code reads, and the
-- windows behind demand 3 each say which numbers these functions are.
use Rattle.std.specs.Prelude.{Bool, true, false, ℕ, ◌+◌, ◌-◌, ◌*◌, Option, Some, None}
use Rattle.rounding.specs.Up.{up}
use Rattle.rounding.specs.Asked.{asked}
use Rattle.equation.specs.Solve.{solve}

-- what a task meets of a gap before its guest's next period: nothing where it is bound, for its releases are taken at a
-- period's start alone
unfoldable pub gap_for : (is_bound : Bool) → (gap : ℕ) → ℕ
gap_for true gap = 0
gap_for false gap = gap

-- A guest seen from its tasks: its capacity C and its period T, what the guests above take from v ticks, and of the
-- task at each place its charged run, its period and its J, the first gap that a release of it can meet.
pub record System : Type 0 where
  pub capacity : ℕ
  pub period : ℕ
  pub above : ℕ → ℕ
  pub run : ℕ → ℕ
  pub every : ℕ → ℕ
  pub gap : ℕ → ℕ

-- the load of task i in a window w: its charged run, and for each task above it ((w + that task's J) / that task's
-- period, rounded up) times that task's charged run
unfoldable pub load : System → (i w : ℕ) → ℕ
load S i w = S.run i + asked S.run S.every S.gap i w

-- n, the server periods that a load takes: load / C, rounded up
abbrev pub server_periods : (load capacity : ℕ) → ℕ
server_periods load capacity = up load capacity

-- the right side at a load in a window w: the guests above interfere from the start of the last server period on, which
-- n - 1 precede
unfoldable pub right_at : (above : ℕ → ℕ) → (capacity period load w : ℕ) → ℕ
right_at above capacity period load w =
    let n = server_periods load capacity in
    load + (n - 1) * (period - capacity) + above (w - (n - 1) * period)

-- the right side of the equation of task i in a window w
unfoldable pub right : System → (i w : ℕ) → ℕ
right S i w = right_at S.above S.capacity S.period (load S i w) w

-- the response that a window w stands for: w + J
unfoldable pub response_of : (J w : ℕ) → ℕ
response_of J w = w + J

-- the response of the window that was found, if one was
abbrev pub later : (J : ℕ) → Option ℕ → Option ℕ
later J None = None
later J (Some w) = Some (response_of J w)

-- w + J for the least window w that is its own right side, where w + J is at most `most`
unfoldable pub task_under : System → (i most : ℕ) → Option ℕ
task_under S i most = later (S.gap i) (solve (right S i) (most - S.gap i))
