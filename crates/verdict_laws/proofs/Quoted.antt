-- What a quoted response gives the windows, where the plan can be started: its meaning, with the records' ranges.
-- Assumes nothing.
use mathlib.Core.Path.{◌≡◌}
use Prim.Native.Nat.{ℕ, ◌-◌}
use native.Mathlib.Omega.{arith}
use Rattle.plan.specs.declared.Plan.{Plan}
use Rattle.plan.specs.Place.{place_of}
use Rattle.plan.specs.Periodic.{start_refusal}
use Rattle.verdict.specs.Quoted.{Quoted}
use Rattle.equation.specs.System.{response_of}
use Rattle.verdict_laws.specs.Tasks.{TaskThere}
use Rattle.plan.proofs.Order.{PlanIn, plan_in}
use Rattle.plan.proofs.PeriodicLaws.{starts_periodic}
use Rattle.verdict_laws.proofs.Tasks.{quoted_means}
use Rattle.verdict_laws.proofs.Kept.{gap_in, TaskFits}

-- What a quoted R says of the task with that number of the guest with that id.
pub record Judged (p : Plan) (id number R : ℕ) : Type 0 where
  pub task : TaskThere p id number
  pub order : PlanIn p
  pub x : ℕ
  pub w : ℕ
  pub fits : TaskFits p (place_of p id) x (number - 1) w
  pub quotes : R ≡ response_of (gap_in p (place_of p id) (number - 1)) w

-- A quoted response of a plan that can be started has its meaning.
pub quoted_judged :
    (p : Plan) (id number R : ℕ) → Quoted p id number R → (start_refusal p).number ≡ 0 → Judged p id number R
unfolding response_of
quoted_judged p id number R q starts =
    let (T, Q) = quoted_means p id number R q in
    let (x, G) = Q.fitted (place_of p id) (omega arith) in
    record {
      task = T;
      order = plan_in p T.there.order;
      x = x;
      w = Q.w;
      fits = record {
        periodic = starts_periodic p starts;
        in_plan = T.there.place;
        in_guest = T.in_guest;
        fits = G;
        solves = Q.solves;
        in_period = omega (arith, Q.response, Q.in_period);
      };
      quotes = Q.response;
    }
