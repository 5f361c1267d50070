-- A run longer than the deadline is unmet: each window that solves the equation holds the task's charged run. Assumes
-- nothing.
use Rattle.std.specs.Prelude.{Result, Ok, Err}
use mathlib.Core.Path.{refl}
use mathlib.Core.Logic.{inl, inr}
use Prim.Native.Nat.{ℕ, suc, ◌≤◌, ◌<◌}
use native.Mathlib.Omega.{arith}
use Rattle.plan.specs.Charge.{charged}
use Rattle.plan.specs.Records.{guest_at, run_of, deadline_of}
use Rattle.plan.specs.declared.Guest.{Guest}
use Rattle.plan.specs.declared.Plan.{Plan}
use Rattle.plan.specs.declared.Refusal.{Refusal}
use Rattle.equation.specs.System.{System, load, right_at, right}
use Rattle.response.specs.Task.{system_in, task_right}
use Rattle.verdict.specs.Verdict.{task_verdict}
use Rattle.verdict.specs.declared.TaskVerdict.{TaskVerdict}
use Rattle.verdict.specs.declared.TaskVerdict.TheVariants.{Met, UnmetAt, Unmet, Unjudged}
use Rattle.verdict_laws.specs.Guests.{There, AllFit}
use Rattle.verdict_laws.specs.Tasks.{TaskQuoted, TaskMeans, SaysUnmet, SaysNotMet}
use Rattle.plan.proofs.Charge.{charged_least}
use Rattle.verdict_laws.proofs.Tasks.{task_verdict_means, judged_unjudged}

-- the load of a window holds the task's own run
run_in_load : (S : System) (i w : ℕ) → S.run i ≤ load S i w
unfolding load
run_in_load S i w = omega arith

-- the right side of the equation holds the charged run
run_in_right : (p : Plan) (k i w : ℕ) → charged (guest_at p.guests k) i ≤ task_right p k i w
unfolding task_right right right_at
run_in_right p k i w = omega (arith, run_in_load (system_in p k) i w)

-- a response that is quoted is no shorter than the charged run
pub quoted_run : (p : Plan) (k i r : ℕ) → TaskQuoted p k i r → charged (guest_at p.guests k) i ≤ r
quoted_run p k i r q = omega (arith, q.response, q.solves.solves, run_in_right p k i q.w)

-- where the run is longer than the deadline the charged run is
pub long_run : (g : Guest) (i : ℕ) → deadline_of g i < run_of g i → deadline_of g i < charged g i
long_run g i h = omega (arith, charged_least (run_of g i) g.charge)

module _ (p : Plan) (id k i : ℕ) (t : There p id k) (h : i < (guest_at p.guests k).tasks)
    (long : deadline_of (guest_at p.guests k) i < charged (guest_at p.guests k) i) where
  -- a task whose charged run is longer than its deadline is not met: it is unmet, with its response or with none, or
  -- unjudged
  pub long_run_not_met : SaysNotMet (task_verdict p id (suc i))
  long_run_not_met = go (task_verdict p id (suc i)) (task_verdict_means p id k i t h)
    where
      go : (v : Result TaskVerdict Refusal) → TaskMeans p k i v → SaysNotMet v
      go (Err r) b = absurd b
      go (Ok (Met r)) b = absurd (omega (arith, b.in_time, quoted_run p k i r b.quoted))
      go (Ok (UnmetAt r)) b = inl (inl (r, refl))
      go (Ok Unmet) b = inl (inr refl)
      go (Ok Unjudged) b = inr refl

  -- under fitted guests such a task is unmet
  pub long_run_unmet : AllFit p k → SaysUnmet (task_verdict p id (suc i))
  long_run_unmet all = go (task_verdict p id (suc i)) (task_verdict_means p id k i t h)
    where
      go : (v : Result TaskVerdict Refusal) → TaskMeans p k i v → SaysUnmet v
      go (Err r) b = absurd b
      go (Ok (Met r)) b = absurd (omega (arith, b.in_time, quoted_run p k i r b.quoted))
      go (Ok (UnmetAt r)) b = inl (r, refl)
      go (Ok Unmet) b = inr refl
      go (Ok Unjudged) b = absurd (judged_unjudged p k all b)
