-- The equations as the code reads them, off lent columns and off one record, under guests that take `above v` from v
-- ticks.
-- Inner: no promise of an entry names this.
use Rattle.std.specs.Prelude.{◌≡◌, Bool, ◌&&◌, List, ℕ, ◌-◌, is_some}
use Rattle.lists.specs.Choice.{pick}
use Rattle.lists.specs.Places.{nth}
use Rattle.lists.specs.All.{all_to}
use Rattle.rounding.specs.Asked.{asked}
use Rattle.equation.specs.Guest.{guest_under}
use Rattle.equation.specs.System.{System, task_under}
use Rattle.plan.specs.Charge.{charged}
use Rattle.plan.specs.Filled.{Filled}
use Rattle.plan.specs.Records.{guest_at, deadline_of}
use Rattle.plan.specs.Server.{says_deferrable}
use Rattle.plan.specs.declared.Guest.{Guest}
use Rattle.response.specs.declared.servers.Servers.{Servers}
use Rattle.response.specs.declared.tasks.Tasks.{Tasks}
use Rattle.response.specs.Interference.{jitter}
use Rattle.response.specs.Task.{system_of}

-- The servers that the first n guests are.
pub record ServersOf (gs : List Guest) (n : ℕ) (s : Servers) : Type 0 where
  pub capacities : Filled s.capacities (λ k. (guest_at gs k).capacity) n
  pub periods : Filled s.periods (λ k. (guest_at gs k).period) n
  pub jitters : Filled s.jitters (λ k. jitter (guest_at gs k)) n

-- The columns of a guest's tasks.
pub record TasksOf (g : Guest) (t : Tasks) : Type 0 where
  pub runs : Filled t.run (charged g) g.tasks
  pub every : t.every ≡ g.every
  pub deadline : t.deadline ≡ g.deadline
  pub count : t.count ≡ g.tasks

-- the jitter of the guest at place k of the columns: T - C where it is a Deferrable Server, else 0
unfoldable pub jitter_at : (deferrable capacities periods : List ℕ) → ℕ → ℕ
jitter_at deferrable capacities periods k =
    pick (says_deferrable (nth deferrable k)) (nth periods k - nth capacities k) 0

-- what the first n guests take from v ticks, each put off by its jitter
unfoldable pub guests_take : (capacities periods jitters : List ℕ) → ℕ → ℕ → ℕ
guests_take capacities periods jitters n = asked (nth capacities) (nth periods) (nth jitters) n

-- whether the guest at place k of the columns is fitted
unfoldable pub fitted_at : (capacities periods jitters : List ℕ) → ℕ → Bool
fitted_at capacities periods jitters k =
    is_some (guest_under (guests_take capacities periods jitters k) (nth capacities k) (nth periods k))

-- what the first n servers take from v ticks
abbrev pub above_of : Servers → (n v : ℕ) → ℕ
above_of s n = guests_take s.capacities s.periods s.jitters n

-- whether the server at place k is fitted
abbrev pub fitted_of : Servers → (k : ℕ) → Bool
fitted_of s k = fitted_at s.capacities s.periods s.jitters k

-- a guest seen from its tasks, off columns: run being the charged runs, and late the J of each
abbrev pub column_system : (above : ℕ → ℕ) → (capacity period : ℕ) → (run every late : List ℕ) → System
column_system above capacity period run every late = record {
  capacity = capacity;
  period = period;
  above = above;
  run = nth run;
  every = nth every;
  gap = nth late;
}

-- the guest of such tasks, late being the J of each, with a capacity in a period under the first n servers
abbrev pub system_at : Servers → (n capacity period : ℕ) → Tasks → (late : List ℕ) → System
system_at s n capacity period t late = column_system (above_of s n) capacity period t.run t.every late

-- whether the first n tasks of a system are met
unfoldable pub met_under : System → (deadline : ℕ → ℕ) → ℕ → Bool
met_under S deadline n = all_to (λ i. is_some (task_under S i (deadline i))) n

-- whether the guest of a system is fitted
abbrev pub fitted_in : System → Bool
fitted_in S = is_some (guest_under S.above S.capacity S.period)

-- whether the guest of a system is fitted and its first n tasks are met
unfoldable pub accepted_in : System → (deadline : ℕ → ℕ) → ℕ → Bool
accepted_in S deadline n = fitted_in S && met_under S deadline n

-- whether a guest is fitted and all its tasks are met
abbrev pub accepted_under : (above : ℕ → ℕ) → Guest → Bool
accepted_under above g = accepted_in (system_of above g) (deadline_of g) g.tasks
