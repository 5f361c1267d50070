-- Demand 3, our word kept. Take any records, the fresh dispatcher of them (`start p`), and any list of calls:
-- releases, ticks and runs, with any arguments, refused or not, in any order. Nothing is asked of other guests and
-- tasks: they may be unfit below, unmet, released at any time.
use Rattle.std.specs.Prelude.{Ok}
use mathlib.Core.Path.{◌≡◌}
use mathlib.Core.List.{List}
use Prim.Native.Nat.{ℕ, suc, ◌+◌, ◌-◌, ◌*◌, ◌≤◌, ◌<◌}
use lib.IntN.{ℤ, pos}
use Rattle.plan.specs.declared.Plan.{Plan}
use Rattle.plan.specs.Place.{place_of}
use Rattle.margins.specs.Margin.{margin_of}
use Rattle.verdict.specs.declared.GuestVerdict.TheVariants.{Fitted}
use Rattle.verdict.specs.declared.TaskVerdict.TheVariants.{Met}
use Rattle.verdict.specs.Verdict.{guest_verdict, task_verdict}
use Rattle.verdict.specs.Quoted.{Quoted}
use Rattle.dispatcher.specs.declared.Answer.TheVariants.{Finished}
use Rattle.dispatcher.specs.Release.{release}
use Rattle.history.specs.Calls.{Call, start, play, released, ticks_in, answers, answer_of, NoneTaken, CanStart}
use Rattle.history.specs.Finished.{FinishedBy}
use Rattle.history.specs.Named.{guest_by, every_by, deadline_by, rest_by, age_by, StartsHere}
use Rattle.history.specs.Share.{share}
use Rattle.history.proofs.Above as upper
use Rattle.history.proofs.ByResponse as response
use Rattle.history.proofs.FinishedBy as finished
use Rattle.history.proofs.NeverLate as late
use Rattle.history.proofs.NeverTurnedAway as turned
use Rattle.history.proofs.Sure as sure

-- 1. Sure of its capacity. In each of its periods that has ended, a fitted guest has had exactly its capacity of ticks.
pub sure_of_capacity :
    (p : Plan) (id x : ℕ)
    → guest_verdict p id ≡ Ok (Fitted x)
    → CanStart p
    → (cs : List Call) (k : ℕ)
    → suc k * (guest_by p id).period ≤ ticks_in cs (start p)
    → share id (answers cs (start p)) (k * (guest_by p id).period) (guest_by p id).period ≡ (guest_by p id).capacity
sure_of_capacity = sure.sure_of_capacity

-- In each period that it begins, a fitted guest has had its capacity by the x-th tick, x its response.
pub had_by_response :
    (p : Plan) (id x : ℕ)
    → guest_verdict p id ≡ Ok (Fitted x)
    → CanStart p
    → (cs : List Call) (k : ℕ)
    → k * (guest_by p id).period + x ≤ ticks_in cs (start p)
    → share id (answers cs (start p)) (k * (guest_by p id).period) x ≡ (guest_by p id).capacity
had_by_response = response.had_by_response

-- A task is quoted R if its verdict is met R or unmet R.
module _ (p : Plan) (id number R : ℕ) (quoted : Quoted p id number R) where
  -- The guest of a quoted task is fitted, and so is each guest above it: `above` is the id of the guest itself or of
  -- one before it in the plan.
  pub quoted_fitted : (above : ℕ) → place_of p above ≤ place_of p id → (x : ℕ) × (guest_verdict p above ≡ Ok (Fitted x))
  quoted_fitted = upper.quoted_fitted p id number R quoted

  -- From a fresh start that is not refused: the records are in order, as the verdict has it, and no guest is
  -- Deferrable.
  module _ (can : CanStart p) where
    -- The guest of a quoted task, and each guest above it, is sure of its capacity.
    pub quoted_sure :
        (above : ℕ)
        → place_of p above ≤ place_of p id
        → (cs : List Call) (k : ℕ)
        → suc k * (guest_by p above).period ≤ ticks_in cs (start p)
        → share above (answers cs (start p)) (k * (guest_by p above).period) (guest_by p above).period
        ≡ (guest_by p above).capacity
    quoted_sure above h = upper.quoted_sure p id number R quoted above h can

    -- 2. Finished by R. After a taken release, calls that do R ticks or more hand back the task finished, at an age of
    -- at most R: the ticks since the release, with the deadline less the age as the margin. It is at least the deadline
    -- less R, which may be negative.
    pub finished_by_R :
        (cs : List Call)
        → (release (play cs (start p)) id number).refusal.number ≡ 0
        → (ds : List Call)
        → R ≤ ticks_in ds (released p id number cs)
        → FinishedBy R (deadline_by p id number) id number ds (released p id number cs)
    finished_by_R = finished.finished_by_R p id number R quoted can

    -- Said of the state: an unfinished job is younger than R.
    pub younger :
        (cs : List Call)
        → 0 < rest_by p id number (play cs (start p))
        → age_by p id number (play cs (start p)) < R
    younger = finished.younger p id number R quoted can

    -- Said of the answers: no call hands back the task finished at an age past R, or with another margin than the
    -- deadline less the age.
    pub never_late :
        (cs : List Call) (c : Call) (age : ℕ) (margin : ℤ)
        → answer_of c (play cs (start p)) ≡ Finished id number age margin
        → (age ≤ R) × (margin ≡ margin_of (deadline_by p id number) age)
    never_late = late.never_late p id number R quoted can

    -- 3. Never turned away. A release is taken if none was taken before, of a bound task while its guest's position is 0
    -- (`StartsHere`, which asks nothing of a task that is not bound).
    pub first_taken :
        (cs : List Call)
        → NoneTaken id number cs (start p)
        → StartsHere p id number (play cs (start p))
        → (release (play cs (start p)) id number).refusal.number ≡ 0
    first_taken = turned.first_taken p id number R quoted can

    -- A release is taken if at least the task's period of ticks was done since the last one taken, of a bound task while
    -- its guest's position is 0.
    pub next_taken :
        (cs : List Call)
        → (release (play cs (start p)) id number).refusal.number ≡ 0
        → (ds : List Call)
        → NoneTaken id number ds (released p id number cs)
        → every_by p id number ≤ ticks_in ds (released p id number cs)
        → StartsHere p id number (play ds (released p id number cs))
        → (release (play ds (released p id number cs)) id number).refusal.number ≡ 0
    next_taken = turned.next_taken p id number R quoted can

    -- Refusal 10 is never given for a quoted task.
    pub never_10 : (cs : List Call) → (release (play cs (start p)) id number).refusal.number ≡ 10 → ⊥
    never_10 = turned.never_10 p id number R quoted can

-- A task that is met is never late: every answer that says it is finished has an age within the deadline, and what is
-- left of it as the margin.
pub met_not_late :
    (p : Plan) (id number R : ℕ)
    → task_verdict p id number ≡ Ok (Met R)
    → CanStart p
    → (cs : List Call) (c : Call) (age : ℕ) (margin : ℤ)
    → answer_of c (play cs (start p)) ≡ Finished id number age margin
    → (age ≤ deadline_by p id number) × (margin ≡ pos (deadline_by p id number - age))
met_not_late = late.met_not_late
