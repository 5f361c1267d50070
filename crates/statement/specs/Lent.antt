-- A log counted by what is gathered of a plan. Inner: no promise of an entry names this.
use Rattle.std.specs.Prelude.{◌≡◌, true, List, [], ◌∷◌, ℕ, ◌*◌, ◌≤◌, ◌<◌, nat_abs, length, Result, Ok, Err}
use Rattle.lists.specs.All.{all_to}
use Rattle.lists.specs.Choice.{pick}
use Rattle.lists.specs.Places.{nth}
use Rattle.lists.specs.Refusals.{refusal, ◌or_refuse◌}
use Rattle.plan.specs.declared.Columns.{Columns}
use Rattle.plan.specs.declared.Plan.{Plan}
use Rattle.plan.specs.Records.{guest_at, deadline_of}
use Rattle.plan.specs.Ranges.{most_guests, longest}
use Rattle.plan.specs.Filled.{ColumnsOf}
use Rattle.plan.specs.Order.{plan_refusal}
use Rattle.plan.specs.Place.{has_guest, has_task}
use Rattle.arrays.specs.Place.{place_at}
use Rattle.margins.specs.Margin.{widest}
use Rattle.logblock.specs.declared.Entry.{Entry}
use Rattle.logblock.specs.Layout.{most_jobs}
use Rattle.logblock.specs.Reading.{entry_in}
use Rattle.statement.specs.declared.Statement.{Statement}
use Rattle.statement.specs.Lines.{most_lines, margins_at}
use Rattle.statement.specs.Counting.{line_of, deadline_for}

-- ---- what a log is counted by
-- The deadlines of guest k are there up to its task n, and the lines before the guest's are as they were.
pub record DeadlinesTo (deadline : List ℕ) (k n : ℕ) (before after : List ℕ) : Type 0 where
  pub there : (t : ℕ) → t < n → nth after (place_at k t) ≡ nth deadline t
  pub kept : (m : ℕ) → m < place_at k 0 → nth after m ≡ nth before m
  pub long : length after ≡ most_lines

-- The deadline of each task of the first n guests stands at the task's line.
pub record DeadlinesOf (p : Plan) (n : ℕ) (deadlines : List ℕ) : Type 0 where
  pub long : length deadlines ≡ most_lines
  pub at :
      (k t : ℕ)
      → k < n
      → t < (guest_at p.guests k).tasks
      → nth deadlines (place_at k t) ≡ deadline_of (guest_at p.guests k) t

-- The columns of a plan in order that a log is counted by, and each task's deadline at its line.
pub record PlanColumns (p : Plan) (columns : Columns) (deadlines : List ℕ) : Type 0 where
  pub passes : (plan_refusal p).number ≡ 0
  pub guests : ColumnsOf p.guests most_guests columns
  pub due : DeadlinesOf p p.count deadlines

-- ---- where entries are counted
-- The line that an entry is counted at, or the number that refuses its block: 7 for no guest, 8 for no task.
abbrev pub aim_of : Plan → Entry → Result ℕ ℕ
aim_of p e = pick (has_guest p e.guest) (pick (has_task p e.guest e.task) (Ok (line_of p e)) (Err 8)) (Err 7)

-- The number that the first n entries of a block refuse it by, 0 for none: 7 for any of them, then 8.
unfoldable pub missing : Plan → (block : List ℕ) → ℕ → ℕ
missing p b n =
    refusal (
    all_to (λ i. has_guest p (entry_in b i).guest) n or_refuse 7
    ∷ all_to (λ i. has_task p (entry_in b i).guest (entry_in b i).task) n or_refuse 8
    ∷ [])

-- No guest and no task of the first n entries of a block is missing, and these are the lines that they are counted at.
pub record Aimed (p : Plan) (b : List ℕ) (n : ℕ) (at : List ℕ) : Type 0 where
  pub guests : all_to (λ i. has_guest p (entry_in b i).guest) n ≡ true
  pub tasks : all_to (λ i. has_task p (entry_in b i).guest (entry_in b i).task) n ≡ true
  pub lines : (i : ℕ) → i < n → nth at i ≡ line_of p (entry_in b i)

-- ---- counting
-- No line has more than so many jobs, or more than so many late, or a sum that so many margins cannot come to.
pub record AtMost (most : ℕ) (s : Statement) : Type 0 where
  pub jobs : (k : ℕ) → k < most_lines → nth s.jobs k ≤ most
  pub late : (k : ℕ) → k < most_lines → nth s.late k ≤ most
  pub margins : (k : ℕ) → k < most_lines → nat_abs (margins_at s k) ≤ widest * most

-- The deadline d and the age a of a job are in their ranges, and there is room for it in line k.
pub record RoomAt (k d a most : ℕ) (s : Statement) : Type 0 where
  pub line : k < most_lines
  pub due : (1 ≤ d) × (d ≤ longest)
  pub age : (1 ≤ a) × (a ≤ longest)
  pub few : most < 4294967295
  pub at_most : AtMost most s

-- An entry that can be counted: its line is one of the 128, and its deadline and its age are in their ranges.
pub record EntryIn (p : Plan) (e : Entry) : Type 0 where
  pub line : line_of p e < most_lines
  pub due : (1 ≤ deadline_for p e) × (deadline_for p e ≤ longest)
  pub age : (1 ≤ e.age) × (e.age ≤ longest)

-- The first n entries of a block can be counted, at these lines and by these deadlines.
pub record Countable (p : Plan) (b : List ℕ) (n : ℕ) (at deadlines : List ℕ) : Type 0 where
  pub few : n ≤ most_jobs
  pub lines : (i : ℕ) → i < n → nth at i ≡ line_of p (entry_in b i)
  pub due : (i : ℕ) → i < n → nth deadlines (line_of p (entry_in b i)) ≡ deadline_for p (entry_in b i)
  pub entries : (i : ℕ) → i < n → EntryIn p (entry_in b i)
