-- Demand 2, the verdicts and the smallest capacity, in terms of the equations themselves. `There p id k`: the records
-- are in order, and the guest with that id stands at place k. Each verdict has its meaning, and is the only one that
-- has it.
use Rattle.std.specs.Prelude.{Result, Ok}
use mathlib.Core.Path.{◌≡◌, sym, ◌∙◌}
use Prim.Native.Nat.{ℕ, suc, ◌+◌, ◌-◌, ◌≤◌, ◌<◌}
use Rattle.plan.specs.Order.{plan_refusal}
use Rattle.plan.specs.Place.{place_of}
use Rattle.plan.specs.Charge.{charged}
use Rattle.plan.specs.Records.{guest_at, run_of, deadline_of}
use Rattle.plan.specs.declared.Guest.{Guest}
use Rattle.plan.specs.declared.Plan.{Plan}
use Rattle.plan.specs.declared.Refusal.{Refusal}
use Rattle.verdict.specs.declared.Acceptance.{Acceptance}
use Rattle.verdict.specs.declared.Acceptance.TheVariants.{Accepted}
use Rattle.verdict.specs.declared.GuestVerdict.{GuestVerdict}
use Rattle.verdict.specs.declared.TaskVerdict.{TaskVerdict}
use Rattle.verdict.specs.Verdict.{guest_verdict, task_verdict, acceptance}
use Rattle.verdict.specs.Quoted.{Quoted}
use Rattle.capacity.specs.Answer.{smallest_capacity}
use Rattle.capacity.specs.Capacity.{with_capacity, smallest}
use Rattle.capacity.specs.Search.{few}
use Rattle.capacity.specs.Tries.{tests_of, most_tests}
use Rattle.verdict_laws.specs.Capacities.{CapacityMeans}
use Rattle.verdict_laws.specs.Guests.{There, AllFit, GuestMeans}
use Rattle.verdict_laws.specs.Tasks.{TaskThere, TaskSolves, InPeriod, TaskQuoted, TaskMeans, SaysUnmet, SaysNotMet}
use Rattle.verdict_laws.specs.Acceptances.{AcceptMeans, AllSaidMet}
use Rattle.capacity.proofs.PlanTries as tests
use Rattle.verdict_laws.proofs.Acceptances as acceptances
use Rattle.verdict_laws.proofs.Capacities as capacities
use Rattle.verdict_laws.proofs.Guests as guests
use Rattle.verdict_laws.proofs.LongRuns as runs
use Rattle.verdict_laws.proofs.StoredCapacity as stored
use Rattle.verdict_laws.proofs.Tasks as tasks

module _ (p : Plan) (id k : ℕ) (there : There p id k) where
  -- Fitted x: x is the least solution from 1 to the period. Unfit: there is none.
  pub guest_means : GuestMeans p k (guest_verdict p id)
  guest_means = guests.guest_verdict_means p id k there

  -- No other verdict of the guest means what holds.
  pub guest_only : (v : Result GuestVerdict Refusal) → GuestMeans p k v → v ≡ guest_verdict p id
  guest_only = guests.guest_verdict_only p id k there

  -- Met R: the guest and all above are fitted, R is w + J for the least solution w, at most the period, and at most
  -- the deadline. Unmet R: the same, and R is past the deadline. Unmet: fitted, and no solution has w + J at most the
  -- period. Unjudged: the guest or one above is unfit.
  pub task_means : (i : ℕ) → i < (guest_at p.guests k).tasks → TaskMeans p k i (task_verdict p id (suc i))
  task_means i = tasks.task_verdict_means p id k i there

  -- No other verdict of the task means what holds.
  pub task_only :
      (i : ℕ) → i < (guest_at p.guests k).tasks → (v : Result TaskVerdict Refusal) → TaskMeans p k i v
      → v ≡ task_verdict p id (suc i)
  task_only i = tasks.task_verdict_only p id k i there

  -- Under fitted guests a response is quoted wherever a solution has its response at most the period: it is withheld
  -- exactly if none has.
  pub quoted_where :
      (i : ℕ)
      → i < (guest_at p.guests k).tasks
      → AllFit p k
      → (w : ℕ)
      → TaskSolves p k i w
      → InPeriod p k i w
      → (R : ℕ) × Quoted p id (suc i) R
  quoted_where i = tasks.quoted_where p id k i there

  -- The capacity proposed works, and none below it does; refusal 11 exactly if none from 1 to the period works.
  pub capacity_means : CapacityMeans p k (smallest_capacity p id)
  capacity_means = capacities.capacity_answer_means p id k there

  -- No other capacity answer means what holds.
  pub capacity_only : (v : Result ℕ Refusal) → CapacityMeans p k v → v ≡ smallest_capacity p id
  capacity_only = capacities.capacity_answer_only p id k there

  -- P14: for a smallest capacity a of up to 32 the search tests tasks at capacities no more often than one upward from
  -- 1 would at least: once at each of the a - 1 below, and each task once where all are met.
  pub capacity_tests :
      (a : ℕ) → smallest_capacity p id ≡ Ok a → a ≤ few → tests_of p k ≤ a - 1 + (guest_at p.guests k).tasks
  capacity_tests a e =
      tests.capacity_tests p there.order k there.place a
      (tests.said_found (smallest p k) a (sym (capacities.capacity_answer_is p id k there) ∙ e))

  -- Whatever the answer, it makes at most 32 tests and 34 for each task.
  pub capacity_tests_most : tests_of p k ≤ most_tests (guest_at p.guests k).tasks
  capacity_tests_most = tests.capacity_tests_most p there.order k there.place

  -- A run longer than the deadline is well formed and unmet: where the charged run is past the deadline, the task is
  -- not met, and under fitted guests it is unmet. The run being past the deadline is such a case (`long_run`).
  pub long_run_not_met :
      (i : ℕ)
      → i < (guest_at p.guests k).tasks
      → deadline_of (guest_at p.guests k) i < charged (guest_at p.guests k) i
      → SaysNotMet (task_verdict p id (suc i))
  long_run_not_met i = runs.long_run_not_met p id k i there

  pub long_run_unmet :
      (i : ℕ)
      → i < (guest_at p.guests k).tasks
      → deadline_of (guest_at p.guests k) i < charged (guest_at p.guests k) i
      → AllFit p k
      → SaysUnmet (task_verdict p id (suc i))
  long_run_unmet i = runs.long_run_unmet p id k i there

  -- The stored capacity plays no part in the smallest.
  pub stored_no_part :
      (c : ℕ)
      → 1 ≤ c
      → c ≤ (guest_at p.guests k).period
      → smallest_capacity (with_capacity p k c) id ≡ smallest_capacity p id
  stored_no_part c = stored.stored_no_part p id k c there

-- A run past the deadline makes the charged run so.
pub long_run : (g : Guest) (i : ℕ) → deadline_of g i < run_of g i → deadline_of g i < charged g i
long_run = runs.long_run

-- A response that is quoted, by met R or unmet R, is that of a task that is there, under fitted guests: the least
-- solution's, and at most the period.
pub quoted_means :
    (p : Plan) (id number R : ℕ)
    → Quoted p id number R
    → TaskThere p id number × TaskQuoted p (place_of p id) (number - 1) R
quoted_means = tasks.quoted_means

-- Accepted: all guests are fitted and all tasks met. Not accepted: they are not.
pub acceptance_means : (p : Plan) → (plan_refusal p).number ≡ 0 → AcceptMeans p (acceptance p)
acceptance_means = acceptances.acceptance_means

-- No other acceptance means what holds.
pub acceptance_only : (p : Plan) → (plan_refusal p).number ≡ 0 → (v : Result Acceptance Refusal) → AcceptMeans p v
    → v ≡ acceptance p
acceptance_only = acceptances.acceptance_only

-- In an accepted plan the verdict of each task is met; unmet R is not met.
pub accepted_said : (p : Plan) → (plan_refusal p).number ≡ 0 → acceptance p ≡ Ok Accepted → AllSaidMet p
accepted_said = acceptances.accepted_said

-- A plan where the verdict of each task is met is accepted.
pub said_accepted : (p : Plan) → (plan_refusal p).number ≡ 0 → AllSaidMet p → acceptance p ≡ Ok Accepted
said_accepted = acceptances.said_accepted
