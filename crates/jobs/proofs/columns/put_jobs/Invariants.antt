-- `jobs::columns::put_jobs` meets its contract: a turn puts the row of one guest and its barred tasks, and the rows
-- before it stand. Assumes nothing.
use Rattle.std.proofs.Common.{◌≡◌, ℕ, ◌<◌}
use Rattle.lists.specs.Places.{nth}
use Rattle.plan.specs.Records.{guest_at, every_of}
use Rattle.plan.specs.Charge.{charged}
use Rattle.arrays.specs.Place.{place_at}
use Rattle.jobs.specs.Barred.{BarredTo}
use Rattle.jobs.specs.Rows.{Long}
use Rattle.plan.proofs.Order.{PlanIn}
use Rattle.jobs.proofs.columns.put_jobs.Given as goal

abbrev pub invariant-loop-k : goal.invariant-loop-k
invariant-loop-k g l =
    let p = g.P.AsPlan.plan l.plan in record {
      in_order : PlanIn p;
      long : Long l.runs l.periods;
      run : (k t : ℕ) → k < l.k → t < (guest_at p.guests k).tasks
          → nth l.runs (place_at k t) ≡ charged (guest_at p.guests k) t;
      period : (k t : ℕ) → k < l.k → t < (guest_at p.guests k).tasks
          → nth l.periods (place_at k t) ≡ every_of (guest_at p.guests k) t;
      bars : BarredTo p l.position l.k l.barred l.clear;
    }
