-- A fresh start that is not refused: it is in its ranges, has its shape, and holds nothing. Assumes nothing.
use mathlib.Core.Path.{◌≡◌, refl, ap}
use mathlib.Core.Bool.{Bool, true, false}
use Prim.Native.Nat.{ℕ, ◌<◌, zero, suc}
use native.Mathlib.Omega.{arith}
use lib.Dec.{ltb, eqb}
use lib.ListN.{length-replicate, get_or-replicate}
use borrow.Author.Tests.{ltb-true, lt-ltb, le-leb, eq-eqb}
use Rattle.lists.specs.Choice.{pick}
use Rattle.plan.specs.declared.Plan.{Plan}
use Rattle.plan.specs.Records.{guest_at, every_of, blank_plan}
use Rattle.plan.specs.Charge.{charged}
use Rattle.plan.specs.Ranges.{longest}
use Rattle.plan.specs.First.{or_else}
use Rattle.plan.specs.Order.{plan_refusal, records_then, counted_by}
use Rattle.plan.specs.Periodic.{start_refusal}
use Rattle.arrays.specs.Place.{place_at}
use Rattle.dispatcher.specs.State.{guest_in, rest_at, wait_at, age_at}
use Rattle.arrays.specs.Ranges.{server_ok, no_server, job_ok, no_job}
use Rattle.dispatcher.specs.Valid.{tasks_in, guest_in_range, task_in_range, state_ok}
use Rattle.dispatcher.specs.Fresh.{idle, started_by, fresh}
use Rattle.lists.proofs.All.{and_true}
use Rattle.plan.proofs.Order.{PlanIn, plan_in}
use Rattle.plan.proofs.PeriodicLaws.{starts_in_order}
use Rattle.dispatcher_laws.proofs.Seen.{cap_of, pos_at, left_at, held_at, Shaped}
use Rattle.dispatcher_laws.proofs.Sound.{Sound}
use Rattle.dispatcher_laws.proofs.Valid.{ok_by}

-- A start that is not refused is idle.
pub fresh_idle : (p : Plan) → (start_refusal p).number ≡ 0 → (fresh p).state ≡ idle p
unfolding fresh started_by
fresh_idle p e = ap (λ (n : ℕ). started_by n p) e

-- A guest without capacity left, at position 0, is in its ranges; past the guests these numbers are those asked for.
server_idle : (b : Bool) (c t l p : ℕ) → (b ≡ true → 0 < t) → l ≡ 0 → p ≡ 0 → pick b (server_ok c t l p) (no_server l p) ≡ true
server_idle true c t l p h a b = and_true (le-leb l c (omega arith)) (lt-ltb p t (omega (arith, h refl)))
server_idle false c t l p h a b = and_true (eq-eqb l 0 a) (eq-eqb p 0 b)

-- A task without a job is in its ranges; past the tasks these numbers are those asked for.
job_idle : (b : Bool) (run every r w a : ℕ) → r ≡ 0 → w ≡ 0 → a ≡ 0 → pick b (job_ok run every r w a) (no_job r w a) ≡ true
job_idle true run every r w a x y z =
    and_true (and_true (le-leb r run (omega arith)) (le-leb w every (omega arith))) (le-leb a longest (omega arith))
job_idle false run every r w a x y z = and_true (and_true (eq-eqb r 0 x) (eq-eqb w 0 y)) (eq-eqb a 0 z)

module _ (p : Plan) where
  -- No capacity is left at the fresh start.
  pub idle_left : (k : ℕ) → k < 8 → left_at (idle p) k ≡ 0
  unfolding idle
  idle_left k h = get_or-replicate 8 k 0 0 h

  -- Every position is 0 at the fresh start.
  pub idle_position : (k : ℕ) → k < 8 → pos_at (idle p) k ≡ 0
  unfolding idle
  idle_position k h = get_or-replicate 8 k 0 0 h

  -- Each guest is about to get its full capacity.
  pub idle_held : (k : ℕ) → k < 8 → held_at (idle p) k ≡ cap_of p k
  unfolding idle
  idle_held k h = ap (λ (n : ℕ). pick (eqb n 0) (cap_of p k) (left_at (idle p) k)) (idle_position k h)

  -- No run is left at the fresh start.
  pub idle_rest : (k t : ℕ) → k < 8 → t < 16 → rest_at (idle p) k t ≡ 0
  unfolding idle
  idle_rest k t h l = get_or-replicate 128 (place_at k t) 0 0 (omega arith)

  -- Nothing waits at the fresh start.
  pub idle_wait : (k t : ℕ) → k < 8 → t < 16 → wait_at (idle p) k t ≡ 0
  unfolding idle
  idle_wait k t h l = get_or-replicate 128 (place_at k t) 0 0 (omega arith)

  -- Nothing has an age at the fresh start.
  pub idle_age : (k t : ℕ) → k < 8 → t < 16 → age_at (idle p) k t ≡ 0
  unfolding idle
  idle_age k t h l = get_or-replicate 128 (place_at k t) 0 0 (omega arith)

  -- The records are as handed over.
  pub idle_plan : (idle p).plan ≡ p
  unfolding idle
  idle_plan = refl

  -- Each guest of a fresh start is in its ranges.
  guest_idle : PlanIn p → (k : ℕ) → k < 8 → guest_in_range (idle p) k ≡ true
  unfolding guest_in_range idle
  guest_idle P k h =
      server_idle (ltb k p.count) (guest_at p.guests k).capacity (guest_at p.guests k).period (left_at (idle p) k) (pos_at (idle p) k)
      (λ q. (let G = (P.guests k (ltb-true k p.count q)).head in omega (arith, G.some, G.fits))) (idle_left k h) (idle_position k h)

  -- Each task of a fresh start is in its ranges.
  task_idle : (k t : ℕ) → k < 8 → t < 16 → task_in_range (idle p) k t ≡ true
  unfolding task_in_range
  task_idle k t h l =
      job_idle (ltb t (tasks_in (idle p) k)) (charged (guest_in (idle p) k) t) (every_of (guest_in (idle p) k) t) (rest_at (idle p) k t)
      (wait_at (idle p) k t) (age_at (idle p) k t) (idle_rest k t h l) (idle_wait k t h l) (idle_age k t h l)

  -- A fresh start has its shape.
  shaped_idle : PlanIn p → Shaped (idle p)
  unfolding idle
  shaped_idle P = record {
    few = P.few;
    tasks = λ k h. (P.guests k h).head.few;
    places = λ k h. (let G = (P.guests k h).head in omega (arith, G.some, G.fits, idle_position k (omega (arith, P.few))));
    left_long = length-replicate {A = ℕ} 8 0;
    position_long = length-replicate {A = ℕ} 8 0;
    rest_long = length-replicate {A = ℕ} 128 0;
    wait_long = length-replicate {A = ℕ} 128 0;
    age_long = length-replicate {A = ℕ} 128 0;
  }

  -- A fresh start that is not refused is in its ranges, and has its shape.
  pub sound_idle : (start_refusal p).number ≡ 0 → Sound p (idle p)
  sound_idle e = record {
    plan = idle_plan;
    ok = ok_by (idle p) (rw idle_plan e) (guest_idle (plan_in p (starts_in_order p e))) task_idle;
    shaped = shaped_idle (plan_in p (starts_in_order p e));
  }

-- ---- a refused start
-- A state without guests is refused as 14.
pub blank_refused : state_ok (idle blank_plan) ≡ false
unfolding state_ok idle start_refusal records_then or_else plan_refusal counted_by
blank_refused = refl

-- A start that is refused is zero throughout.
pub start_by : (n : ℕ) (p : Plan) → 0 < n → started_by n p ≡ idle blank_plan
unfolding started_by
start_by zero p h = absurd (omega arith)
start_by (suc n) p h = refl
