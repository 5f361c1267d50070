-- What the inner functions ask of records that passed the check. Inner: no promise of an entry names this.
use Rattle.std.specs.Prelude.{◌≡◌, true, List, ℕ, ◌+◌, ◌≤◌, ◌<◌}
use Rattle.lists.specs.Places.{nth}
use Rattle.plan.specs.Records.{run_of, every_of}
use Rattle.plan.specs.Ranges.{most_guests, most_tasks, longest}
use Rattle.plan.specs.declared.Guest.{Guest}
use Rattle.equation.specs.System.{System}
use Rattle.response.specs.declared.servers.Servers.{Servers}
use Rattle.response.specs.declared.tasks.Tasks.{Tasks}
use Rattle.response.specs.Columns.{fitted_in}

-- What the recurrence of task i asks: a capacity from 1 to the period that is fitted, and a run.
pub record Ready (S : System) (i : ℕ) : Type 0 where
  pub some : 1 ≤ S.capacity
  pub within : S.capacity ≤ S.period
  pub fits : fitted_in S ≡ true
  pub runs : 1 ≤ S.run i

-- A capacity from 1 to the period, and a period in its range.
pub record ServerIn (capacity period : ℕ) : Type 0 where
  pub some : 1 ≤ capacity
  pub within : capacity ≤ period
  pub short : period ≤ longest

-- the capacities and periods of the first n servers are in their ranges
abbrev pub Ranged : Servers → ℕ → Type 0
Ranged s n = (k : ℕ) → k < n → ServerIn (nth s.capacities k) (nth s.periods k)

-- the first n ticks of a column are no more than a period can have
abbrev pub EachShort : (column : List ℕ) → ℕ → Type 0
EachShort column n = (i : ℕ) → i < n → nth column i ≤ longest

-- at most 16 guests above, each with a period and a jitter of no more than a period can have
abbrev pub AboveIn : Servers → ℕ → Type 0
AboveIn s n = (n ≤ 16) × (EachShort s.periods n × EachShort s.jitters n)

-- At most 16 tasks, each with its numbers in their ranges.
pub record TasksIn (g : Guest) : Type 0 where
  pub few : g.tasks ≤ most_tasks
  pub some : (i : ℕ) → i < g.tasks → 1 ≤ run_of g i
  pub runs : EachShort g.run g.tasks
  pub asks : (i : ℕ) → i < g.tasks → 1 ≤ every_of g i
  pub periods : EachShort g.every g.tasks
  pub deadlines : EachShort g.deadline g.tasks

-- the first n of a column are at least 1
abbrev pub EachSome : (column : List ℕ) → ℕ → Type 0
EachSome column n = (i : ℕ) → i < n → 1 ≤ nth column i

-- The first n of the tasks of some columns, each with its charged run, period and deadline in its range.
pub record ColumnsIn (t : Tasks) (n : ℕ) : Type 0 where
  pub few : n ≤ most_tasks
  pub runs : EachSome t.run n
  pub asks : EachSome t.every n
  pub periods : EachShort t.every n
  pub deadlines : EachShort t.deadline n

-- A capacity that can be tried: it is in its range, and each of the tasks has its numbers and a J in their ranges.
pub record InRange (capacity period : ℕ) (t : Tasks) (late : List ℕ) : Type 0 where
  pub server : ServerIn capacity period
  pub tasks : ColumnsIn t t.count
  pub gaps : EachShort late t.count

-- Servers in their ranges, of which the one at place k is g's.
pub record Seated (g : Guest) (s : Servers) (k : ℕ) : Type 0 where
  pub place : k < most_guests
  pub ranged : Ranged s (k + 1)
  pub late : EachShort s.jitters (k + 1)
  pub capacity : nth s.capacities k ≡ g.capacity
  pub period : nth s.periods k ≡ g.period
  pub tasks : TasksIn g
