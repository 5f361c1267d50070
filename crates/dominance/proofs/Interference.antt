-- Guests made Periodic take no more from any window: each keeps its capacity and its period, and puts nothing off. So
-- the recurrence of a guest stays below its old solution, and the comparison of two systems serves its tasks, whose
-- gaps and loads are as they were. Assumes nothing.
use mathlib.Core.Path.{◌≡◌, refl, ap, fun_ext}
use Prim.Native.Nat.{ℕ, ◌≤◌, ◌<◌}
use native.Mathlib.Nat.{le_refl}
use native.Mathlib.Omega.{arith}
use Rattle.equation.specs.Guest.{guest_side}
use Rattle.equation.specs.System.{System}
use Rattle.plan.specs.Order.{plan_refusal}
use Rattle.plan.specs.Periodic.{converted}
use Rattle.plan.specs.Records.{guest_at, run_of}
use Rattle.plan.specs.Server.{as_periodic}
use Rattle.plan.specs.declared.Guest.{Guest}
use Rattle.plan.specs.declared.Plan.{Plan}
use Rattle.response.specs.Guest.{guest_right}
use Rattle.response.specs.Interference.{jitter, interference}
use Rattle.response.specs.Task.{gap, system_of, system_in, task_right}
use Rattle.verdict_laws.specs.Guests.{GuestSolves}
use Rattle.verdict_laws.specs.Tasks.{TaskSolves}
use Rattle.dominance.specs.Stays.{NoLarger}
use Rattle.rounding.proofs.Asked.{asked_le}
use Rattle.equation.proofs.Respond.{Roomier, sooner}
use Rattle.equation.proofs.Rise.{rise_to}
use Rattle.equation.proofs.System.{Regular}
use Rattle.plan.proofs.Charge.{charged_least}
use Rattle.plan.proofs.Order.{plan_in}
use Rattle.plan.proofs.Converted.{converted_at}
use Rattle.plan.proofs.RangesLaws.{GuestIn}
use Rattle.response.proofs.ColumnsLaws.{interference_grows}

module _ (p : Plan) where
  -- Each capacity is as it was.
  same_capacity : (k : ℕ) → (guest_at (converted p).guests k).capacity ≡ (guest_at p.guests k).capacity
  same_capacity k = ap (λ (g : Guest). g.capacity) (converted_at p k)

  -- So is each period.
  same_period : (k : ℕ) → (guest_at (converted p).guests k).period ≡ (guest_at p.guests k).period
  same_period k = ap (λ (g : Guest). g.period) (converted_at p k)

  -- Nothing is put off.
  no_jitter : (k : ℕ) → jitter (guest_at (converted p).guests k) ≡ 0
  unfolding jitter
  no_jitter k = rw (converted_at p k) refl

  -- The guests above take no more from any window.
  pub takes_less : (k v : ℕ) → interference (converted p) k v ≤ interference p k v
  unfolding interference
  takes_less k v =
      rw (fun_ext same_capacity, fun_ext same_period, fun_ext no_jitter) (asked_le _ _ _ _ k v v (λ j l. omega arith))

  -- A guest of records in order.
  module _ (ok : (plan_refusal p).number ≡ 0) (k : ℕ) (h : k < p.count) where
    abbrev g : Guest
    g = guest_at p.guests k

    -- It is in its ranges.
    guest_in_lem : GuestIn g
    guest_in_lem = (plan_in p ok).guests k h

    -- A solution of the guest's equation has one no larger after.
    pub guest_sooner : (x : ℕ) → GuestSolves p k x → NoLarger (GuestSolves (converted p) k) x
    unfolding guest_right guest_side
    guest_sooner x s =
        let (y, low, high, sol, rest) = rise_to (guest_right (converted p) k)
        (λ a b l. omega (arith, interference_grows (converted p) k a b l)) x
        (omega (arith, s.solves, takes_less k x, same_capacity k)) g.capacity
        record { rises = omega (arith, same_capacity k); under = λ z l. omega (arith, same_capacity k) } in
        let solves : GuestSolves (converted p) k y = record {
          low = omega (arith, guest_in_lem.head.some);
          high = omega (arith, s.high, same_period k);
          solves = sol;
        } in
        (y, (solves, omega arith))

    -- The guest after, seen from its tasks.
    abbrev after : System
    after = system_of (interference (converted p) k) (as_periodic g)

    -- Its tasks have the same runs, periods and gaps, and no less room.
    roomier : (i : ℕ) → Roomier (system_in p k) after i
    unfolding gap
    roomier i = record {
      period = refl;
      capacity = le_refl g.capacity;
      above = takes_less k;
      run = refl;
      every = refl;
      gap = λ j l. omega arith;
    }

    -- The laws of a task's equation serve it with the old response of the guest.
    fits_after : (x i : ℕ) → i < g.tasks → GuestSolves p k x → Regular after i x
    unfolding guest_right guest_side
    fits_after x i l s = record {
      some = guest_in_lem.head.some;
      within = guest_in_lem.head.fits;
      grows = interference_grows (converted p) k;
      runs = omega (arith, (guest_in_lem.tasks i l).runs, charged_least (run_of g i) g.charge);
      fits = omega (arith, s.solves, takes_less k x);
      ends = s.high;
    }

    -- A window that solves a task's equation has one no longer after.
    pub task_sooner : (x i w : ℕ) → i < g.tasks → GuestSolves p k x → TaskSolves p k i w
        → NoLarger (TaskSolves (converted p) k i) w
    unfolding task_right
    task_sooner x i w l fits s =
        let (u, low, high, sol) = sooner (system_in p k) after i x guest_in_lem.head.some (fits_after x i l fits)
        (roomier i) w s.solves in
        (u, (record { low = low; solves = rw (converted_at p k) sol }, omega arith))
