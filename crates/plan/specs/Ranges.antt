-- The ranges of document 01's table. The same definitions serve the reader, the records' order, the writer and the
-- dispatcher's state.
use Rattle.std.specs.Prelude.{Bool, not, ◌&&◌, ◌||◌, ℕ, ◌%◌, leb, eqb}
use Rattle.lists.specs.All.{all_to}
use Rattle.plan.specs.declared.Guest.{Guest}
use Rattle.plan.specs.Records.{run_of, every_of, deadline_of}
use Rattle.plan.specs.Marks.{marked}

-- the most guests in a plan
abbrev pub most_guests : ℕ
most_guests = 8

-- the most tasks in a guest
abbrev pub most_tasks : ℕ
most_tasks = 16

-- the longest period and run, in ticks
abbrev pub longest : ℕ
longest = 1000000

-- whether a number is from low to high
abbrev pub within : ℕ → ℕ → ℕ → Bool
within low high x = leb low x && leb x high

-- whether refusal 4's test passes: id not 0, capacity 1 to the period, period 1 to 1,000,000, number of tasks 1 to 16
unfoldable pub head_ok : (id capacity period tasks : ℕ) → Bool
head_ok id capacity period tasks =
    leb 1 id && within 1 period capacity && within 1 longest period && within 1 most_tasks tasks

-- whether a guest passes refusal 4's test, its id being new
abbrev pub guest_ok : Guest → Bool
guest_ok g = head_ok g.id g.capacity g.period g.tasks

-- whether refusal 6's test passes: run and period 1 to 1,000,000, deadline 1 to the task's period
unfoldable pub task_ok : (run every deadline : ℕ) → Bool
task_ok run every deadline = within 1 longest run && within 1 longest every && within 1 every deadline

-- whether the period of a task, where it is bound, is a multiple of its guest's
unfoldable pub start_ok : (is_bound : Bool) → (period every : ℕ) → Bool
start_ok is_bound period every = not is_bound || eqb (every % period) 0

-- whether each task of a guest passes refusal 6's test: its numbers, and the multiple where it is bound
unfoldable pub tasks_ok : Guest → Bool
tasks_ok g =
    all_to (λ i. task_ok (run_of g i) (every_of g i) (deadline_of g i)) g.tasks
    && all_to (λ i. start_ok (marked g.marks i) g.period (every_of g i)) g.tasks
