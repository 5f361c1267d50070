-- What a line of a statement says.
use Rattle.std.specs.Prelude.{◌≡◌, ◌≢◌, true, List, ℕ, ◌-◌, length}
use Rattle.lists.specs.Places.{nth}
use Rattle.plan.specs.declared.Plan.{Plan}
use Rattle.plan.specs.Place.{place_of, has_guest, has_task}
use Rattle.arrays.specs.Place.{place_at}
use Rattle.logblock.specs.declared.Entry.{Entry}
use Rattle.history.specs.Named.{deadline_by}
use Rattle.statement.specs.declared.Statement.{Statement}
use Rattle.statement.specs.Lines.{margins_at}
use Rattle.statement_laws.specs.Entries.{ages_of, greatest, late_in, margins_in}

-- Line k is that of finished jobs of these ages, of a task with that deadline.
pub record LineSays (s : Statement) (k deadline : ℕ) (ages : List ℕ) : Type 0 where
  pub jobs : nth s.jobs k ≡ length ages
  pub longest : nth s.longest k ≡ greatest ages
  pub late : nth s.late k ≡ late_in deadline ages
  pub margins : margins_at s k ≡ margins_in deadline ages

-- The line of the task with that number of the guest with that id.
abbrev pub task_line : Plan → (guest task : ℕ) → ℕ
task_line p guest task = place_at (place_of p guest) (task - 1)

-- The task's line says what is to be stated of these entries.
abbrev pub TaskSays : Plan → (guest task : ℕ) → Statement → List Entry → Type 0
TaskSays p guest task s es = LineSays s (task_line p guest task) (deadline_by p guest task) (ages_of guest task es)

-- Line k is no task's.
abbrev pub NoTasks : Plan → ℕ → Type 0
NoTasks p k =
    (guest task : ℕ) → has_guest p guest ≡ true → has_task p guest task ≡ true → task_line p guest task ≢ k
