-- What records in their ranges give the inner functions. Assumes nothing.
use Rattle.std.specs.Prelude.{is_some}
use mathlib.Core.Path.{◌≡◌, sym, ◌∙◌, ap}
use mathlib.Core.Bool.{Bool, true}
use mathlib.Core.List.{List}
use Prim.Native.Nat.{ℕ, ◌+◌, ◌-◌, ◌≤◌, ◌<◌}
use native.Mathlib.Omega.{arith}
use Rattle.lists.specs.All.{all_to}
use Rattle.lists.specs.Places.{nth}
use Rattle.equation.specs.Guest.{guest_under}
use Rattle.equation.specs.System.{gap_for}
use Rattle.plan.specs.Filled.{Filled}
use Rattle.plan.specs.Marks.{is_bound}
use Rattle.plan.specs.Ranges.{most_guests, longest}
use Rattle.plan.specs.Records.{guest_at, run_of}
use Rattle.plan.specs.declared.Guest.{Guest}
use Rattle.plan.specs.declared.Plan.{Plan}
use Rattle.response.specs.declared.servers.Servers.{Servers}
use Rattle.response.specs.declared.tasks.Tasks.{Tasks}
use Rattle.response.specs.Columns.{ServersOf, TasksOf, above_of, fitted_of, fitted_at, column_system, fitted_in}
use Rattle.response.specs.Ready.{Ready, ServerIn, EachShort, AboveIn, TasksIn, ColumnsIn, InRange, Seated}
use Rattle.lists.proofs.All.{all_at}
use Rattle.equation.proofs.System.{gap_for_most}
use Rattle.plan.proofs.Charge.{charged_least}
use Rattle.plan.proofs.Order.{PlanIn}
use Rattle.response.proofs.ServersLaws.{jitter_most}

-- a fitted capacity in its ranges is ready for the tasks' recurrences
pub guest_ready : (above : ℕ → ℕ) (capacity period : ℕ) (t : Tasks) (late : List ℕ)
    → InRange capacity period t late
    → fitted_in (column_system above capacity period t.run t.every late) ≡ true → (i : ℕ) → i < t.count
    → Ready (column_system above capacity period t.run t.every late) i
guest_ready above capacity period t late s fits i h = record {
  some = s.server.some;
  within = s.server.within;
  fits = fits;
  runs = s.tasks.runs i h;
}

-- the columns of a record in its ranges are in theirs
pub filled_columns : (g : Guest) → TasksIn g → {t : Tasks} → TasksOf g t → ColumnsIn t t.count
filled_columns g s {t} o =
    rw o.count
    record {
      few = s.few;
      runs = λ i h. omega (arith, o.runs.holds i h, s.some i h, charged_least (run_of g i) g.charge);
      asks = rw o.every s.asks;
      periods = rw o.every s.periods;
      deadlines = rw o.deadline s.deadlines;
    }

-- no J is more than the period
pub filled_gaps : (is_bound : ℕ → Bool) (capacity period n : ℕ) → period ≤ longest → {late : List ℕ}
    → Filled late (λ i. gap_for (is_bound i) (period - capacity)) n → EachShort late n
filled_gaps is_bound capacity period n short f i h =
    omega (arith, f.holds i h, gap_for_most (is_bound i) (period - capacity))

module _ (g : Guest) (s : Servers) (k : ℕ) (q : Seated g s k) where
  -- the guest's capacity and period are in their ranges
  pub seated_server : ServerIn g.capacity g.period
  seated_server = rw (← q.capacity, ← q.period) (q.ranged k (omega arith))

  -- it can be tried
  pub seated_range : {t : Tasks} {late : List ℕ} → TasksOf g t
      → Filled late (λ i. gap_for (is_bound g i) (g.period - g.capacity)) t.count
      → InRange g.capacity g.period t late
  seated_range {t} o l = record {
    server = seated_server;
    tasks = filled_columns g q.tasks o;
    gaps = filled_gaps (is_bound g) g.capacity g.period t.count seated_server.short l;
  }

  -- those above are in their ranges
  pub seated_above : AboveIn s k
  seated_above = (
    omega (arith, q.place),
    (λ j h. (q.ranged j (omega arith)).short, λ j h. q.late j (omega arith)),
  )

  -- the guest is fitted where it and all above are
  pub seated_fits : all_to (fitted_of s) (k + 1) ≡ true
      → is_some (guest_under (above_of s k) g.capacity g.period) ≡ true
  unfolding fitted_at
  seated_fits a =
      ap (λ (c : ℕ). is_some (guest_under (above_of s k) c g.period)) (sym q.capacity)
      ∙ ap (λ (t : ℕ). is_some (guest_under (above_of s k) (nth s.capacities k) t)) (sym q.period)
      ∙ all_at (fitted_of s) (k + 1) k (omega arith) a

-- each guest of records in order is seated among their servers
pub seated_at : (p : Plan) {s : Servers} → ServersOf p.guests most_guests s → PlanIn p → (k : ℕ) → k < p.count
    → Seated (guest_at p.guests k) s k
seated_at p f o k h =
    let here : k < 8 = omega (arith, o.few) in
    let g = o.guests k h in
    record {
      place = here;
      ranged = λ j l. (
          let b : j < 8 = omega arith in
          let g = (o.guests j (omega arith)).head in
          record {
            some = omega (arith, f.capacities.holds j b, g.some);
            within = omega (arith, f.capacities.holds j b, f.periods.holds j b, g.fits);
            short = omega (arith, f.periods.holds j b, g.short);
          });
      late = λ j l. (
          let b : j < 8 = omega arith in
          let g = (o.guests j (omega arith)).head in
          omega (arith, f.jitters.holds j b, jitter_most (guest_at p.guests j), g.short));
      capacity = f.capacities.holds k here;
      period = f.periods.holds k here;
      tasks = record {
        few = g.head.few;
        some = λ i l. (g.tasks i l).runs;
        runs = λ i l. (g.tasks i l).run_short;
        asks = λ i l. (g.tasks i l).some;
        periods = λ i l. (g.tasks i l).short;
        deadlines = λ i l. (let t = g.tasks i l in omega (arith, t.in_time, t.short));
      };
    }
