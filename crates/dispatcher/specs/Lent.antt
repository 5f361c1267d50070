-- Ticks over lent arrays, apart from the plan: what the arrays stand for, and who had a tick as the code notes it.
-- Inner: no promise of an entry names this.
use Rattle.std.specs.Prelude.{◌≡◌, Bool, true, false, List, ℕ, zero, suc, ◌*◌, ◌≤◌, ◌<◌}
use Rattle.lists.specs.Choice.{pick}
use Rattle.lists.specs.Places.{nth}
use Rattle.plan.specs.declared.Plan.{Plan}
use Rattle.plan.specs.Order.{plan_refusal}
use Rattle.plan.specs.Ranges.{longest}
use Rattle.plan.specs.Records.{guest_at, deadline_of}
use Rattle.arrays.specs.Place.{place_at}
use Rattle.steps.specs.declared.Turn.{Turn}
use Rattle.dispatcher.specs.declared.Dispatcher.{Dispatcher}
use Rattle.dispatcher.specs.declared.Answer.{Answer}
use Rattle.dispatcher.specs.declared.Answer.TheVariants.{Silent}
use Rattle.dispatcher.specs.State.{guest_in, rest_at}
use Rattle.dispatcher.specs.Tick.{refilled, holder, is_held, left_after, worker, is_worked, rest_after, age_after, next}
use Rattle.dispatcher.specs.Answer.{answer}
use Rattle.dispatcher.specs.Run.{ran_to, run_for}

-- the state of a plan with these arrays
abbrev pub state_of : Plan → (left position rest wait age usage : List ℕ) → Dispatcher
state_of p left position rest wait age usage =
    record { plan = p; left = left; position = position; rest = rest; wait = wait; age = age; usage = usage }

-- arrays where no job runs or waits past the first n guests
pub record Quiet (n : ℕ) (rest wait : List ℕ) : Type 0 where
  pub runs : (k : ℕ) → n * 16 ≤ k → k < 128 → nth rest k ≡ 0
  pub waits : (k : ℕ) → n * 16 ≤ k → k < 128 → nth wait k ≡ 0

-- who has a tick, by whether a guest has it: its place, its task's place, and the run left that the task had; 0 where
-- no task works
unfoldable pub turn_by : Bool → Dispatcher → Turn
turn_by true d = record { guest = holder d; task = worker d; had = pick (is_worked d) (rest_at d (holder d) (worker d)) 0 }
turn_by false d = record { guest = holder d; task = 0; had = 0 }

-- who has a tick
unfoldable pub turn : Dispatcher → Turn
turn d = turn_by (is_held d) d

-- a state that is lent at the moment its guests are refilled
pub record Refilled (d : Dispatcher) (n : ℕ) (tasks left rest : List ℕ) : Type 0 where
  pub count : d.plan.count ≡ n
  pub many : (k : ℕ) → k < n → nth tasks k ≡ (guest_in d k).tasks
  pub filled : left ≡ refilled d
  pub runs : rest ≡ d.rest

-- what serving a state gives
pub record Served (d : Dispatcher) (left rest : List ℕ) (r : Turn) : Type 0 where
  pub lefts : left ≡ left_after d
  pub runs : rest ≡ rest_after d
  pub had : r ≡ turn d

-- one tick of a state gives the state and notes who had it
pub record Stepped (d after : Dispatcher) (r : Turn) : Type 0 where
  pub state : after ≡ next d
  pub had : r ≡ turn d

-- a tick that was taken and finished no job: who had it, and the ids of the plan's n guests
pub record Telling (d : Dispatcher) (ids : List ℕ) (n : ℕ) (t : Turn) : Type 0 where
  pub sound : (plan_refusal d.plan).number ≡ 0
  pub count : d.plan.count ≡ n
  pub id : (k : ℕ) → k < n → nth ids k ≡ (guest_in d k).id
  pub had : t ≡ turn d
  pub more : t.had ≡ 1 → ⊥

-- a tick that was taken and finished a job: who had it, and the ages after it
pub record Ending (d : Dispatcher) (p : Plan) (t : Turn) (age : List ℕ) : Type 0 where
  pub sound : (plan_refusal d.plan).number ≡ 0
  pub plan : d.plan ≡ p
  pub had : t ≡ turn d
  pub ages : age ≡ age_after d
  pub last : t.had ≡ 1

-- places and numbers of a finished job are small
pub record Fits (p : Plan) (t : Turn) (age : List ℕ) : Type 0 where
  pub guest : t.guest < 8
  pub task : t.task < 16
  pub deadline : deadline_of (guest_at p.guests t.guest) t.task ≤ longest
  pub ages : nth age (place_at t.guest t.task) ≤ longest

-- the last tick's answer, by the number done and the state before that tick; no answer where none was done
unfoldable pub last_by : ℕ → Dispatcher → Answer
last_by zero before = Silent
last_by (suc n) before = answer before

-- a run of n ticks that came to an end after `done`, the last of them noted
pub record Gone (d : Dispatcher) (n done : ℕ) (t : Turn) (after : Dispatcher) : Type 0 where
  pub before : Dispatcher
  pub last : 0 < done → Stepped before after t
  pub ran : run_for n d ≡ ran_to done (last_by done before) after
