-- What a task's verdict says of its equation.
use Rattle.std.specs.Prelude.{◌≡◌, ◌⊎◌, ℕ, suc, ◌+◌, ◌-◌, ◌≤◌, ◌<◌, Result, Ok, Err}
use Rattle.plan.specs.Place.{place_of}
use Rattle.plan.specs.Records.{guest_at, every_of, deadline_of}
use Rattle.plan.specs.declared.Plan.{Plan}
use Rattle.plan.specs.declared.Refusal.{Refusal}
use Rattle.response.specs.Task.{gap, task_right}
use Rattle.verdict.specs.declared.TaskVerdict.{TaskVerdict}
use Rattle.verdict.specs.declared.TaskVerdict.TheVariants.{Met, UnmetAt, Unmet, Unjudged}
use Rattle.verdict_laws.specs.Guests.{There, NoneFits, AllFit}

-- records in order, with a guest of that id that has a task of that number, from 1
pub record TaskThere (p : Plan) (id number : ℕ) : Type 0 where
  pub there : There p id (place_of p id)
  pub from_1 : number ≡ suc (number - 1)
  pub in_guest : number - 1 < (guest_at p.guests (place_of p id)).tasks

-- w is a window of at least 1 that solves the task's equation
pub record TaskSolves (p : Plan) (k i w : ℕ) : Type 0 where
  pub low : 1 ≤ w
  pub solves : w ≡ task_right p k i w

-- w + J is at most the task's deadline
abbrev pub InTime : Plan → ℕ → ℕ → ℕ → Type 0
InTime p k i w = w + gap (guest_at p.guests k) i ≤ deadline_of (guest_at p.guests k) i

-- w + J is at most the task's period
abbrev pub InPeriod : Plan → ℕ → ℕ → ℕ → Type 0
InPeriod p k i w = w + gap (guest_at p.guests k) i ≤ every_of (guest_at p.guests k) i

-- quoted r: its guest and all above are fitted, r is w + J for the least solution w, and at most the period
pub record TaskQuoted (p : Plan) (k i r : ℕ) : Type 0 where
  pub fitted : AllFit p k
  pub w : ℕ
  pub solves : TaskSolves p k i w
  pub least : (z : ℕ) → z < w → ¬ TaskSolves p k i z
  pub response : r ≡ w + gap (guest_at p.guests k) i
  pub in_period : r ≤ every_of (guest_at p.guests k) i

-- met r: quoted r, and r is at most the deadline
pub record TaskMet (p : Plan) (k i r : ℕ) : Type 0 where
  pub quoted : TaskQuoted p k i r
  pub in_time : r ≤ deadline_of (guest_at p.guests k) i

-- unmet r: quoted r, and r is past the deadline
pub record TaskUnmetAt (p : Plan) (k i r : ℕ) : Type 0 where
  pub quoted : TaskQuoted p k i r
  pub late : deadline_of (guest_at p.guests k) i < r

-- unmet: its guest and all above are fitted, and no solution w has w + J at most the period
pub record TaskUnmet (p : Plan) (k i : ℕ) : Type 0 where
  pub fitted : AllFit p k
  pub none : (w : ℕ) → TaskSolves p k i w → ¬ InPeriod p k i w

-- unjudged: its own guest or one above is unfit
pub record TaskUnjudged (p : Plan) (k : ℕ) : Type 0 where
  pub j : ℕ
  pub above : j ≤ k
  pub unfit : NoneFits p j

-- what a verdict means where records are in order, the guest is there and has the task
abbrev pub TaskMeans : Plan → ℕ → ℕ → Result TaskVerdict Refusal → Type 0
TaskMeans p k i (Err refusal) = ⊥
TaskMeans p k i (Ok (Met r)) = TaskMet p k i r
TaskMeans p k i (Ok (UnmetAt r)) = TaskUnmetAt p k i r
TaskMeans p k i (Ok Unmet) = TaskUnmet p k i
TaskMeans p k i (Ok Unjudged) = TaskUnjudged p k

-- a verdict says unmet, with the task's response or with none
abbrev pub SaysUnmet : Result TaskVerdict Refusal → Type 0
SaysUnmet v = ((r : ℕ) × (v ≡ Ok (UnmetAt r))) ⊎ (v ≡ Ok Unmet)

-- a verdict says that the task is not met: unmet or unjudged
abbrev pub SaysNotMet : Result TaskVerdict Refusal → Type 0
SaysNotMet v = SaysUnmet v ⊎ (v ≡ Ok Unjudged)

-- each task of the guest at place k has a solution in time
abbrev pub AllInTime : Plan → ℕ → Type 0
AllInTime p k = (i : ℕ) → i < (guest_at p.guests k).tasks → (w : ℕ) × TaskSolves p k i w × InTime p k i w
