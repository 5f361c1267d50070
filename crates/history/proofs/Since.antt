-- Waits and ages of any task, over histories: the wait is what is left of the period since the last taken release,
-- and the age of an unfinished job counts the ticks since, capped. Assumes nothing.
use mathlib.Core.Path.{◌≡◌, sym, ap, subst, ◌∙◌}
use mathlib.Core.List.{List, [], ◌∷◌, ◌++◌}
use Prim.Native.Nat.{ℕ, suc, ◌+◌, ◌-◌, ◌≤◌, ◌<◌, min}
use native.Mathlib.Omega.{arith}
use lib.ListN.{length, length-append}
use Rattle.plan.specs.Ranges.{longest}
use Rattle.plan.specs.declared.Plan.{Plan}
use Rattle.plan.specs.Records.{guest_at}
use Rattle.dispatcher.specs.declared.Dispatcher.{Dispatcher}
use Rattle.dispatcher.specs.declared.Answer.{Answer}
use Rattle.arrays.specs.Place.{place_at}
use Rattle.dispatcher.specs.State.{guest_in, rest_at, wait_at, age_at}
use Rattle.dispatcher.specs.Tick.{next}
use Rattle.dispatcher.specs.Answer.{answer}
use Rattle.dispatcher.specs.Release.{taken}
use Rattle.windows.specs.TaskTick.{TaskTick}
use Rattle.history.specs.Calls.{Call, play, ticks_in, Takes, NoneTaken}
use Rattle.history.proofs.Play.{play_keeps, answers_length}
use Rattle.verdict_laws.proofs.Ids.{id_of, found_id}
use Rattle.dispatcher_laws.proofs.Release.{Free, free_taken, taken_here, taken_else}
use Rattle.dispatcher_laws.proofs.Seen.{every_in, tasks_at}
use Rattle.dispatcher_laws.proofs.Sound.{Sound}
use Rattle.dispatcher_laws.proofs.TaskTick.{task_tick}

-- The state m ticks after a taken release of task i of guest g.
pub record Since (p : Plan) (g i m : ℕ) (d : Dispatcher) : Type 0 where
  pub waits : wait_at d g i ≡ every_in p g i - m
  pub age : 0 < rest_at d g i → age_at d g i ≡ min m longest

-- The state before any release of task i of guest g is taken.
pub record Never (g i : ℕ) (d : Dispatcher) : Type 0 where
  pub free : rest_at d g i ≡ 0
  pub due : wait_at d g i ≡ 0

module _ (p : Plan) (g i : ℕ) (in_plan : g < p.count) (in_guest : i < (guest_at p.guests g).tasks) where
  -- A release that is not one of this task is taken elsewhere.
  elsewhere :
      (d : Dispatcher) (id task k t : ℕ)
      → Sound p d
      → (Takes id task d (id_of p g) (suc i) → ⊥)
      → Free d id task k t
      → place_at g i ≡ place_at k t
      → ⊥
  elsewhere d id task k t D n F e =
      let few : (guest_in d k).tasks ≤ 16 = D.shaped.tasks k F.in_plan in
      let ours : (guest_in d g).tasks ≤ 16 = D.shaped.tasks g (rw D.plan in_plan) in
      let inside : i < (guest_in d g).tasks = rw D.plan in_guest in
      let a : g ≡ k = omega (arith, F.in_guest) in
      let b : i ≡ t = omega (arith, F.in_guest) in
      let found : id_of d.plan g ≡ id = found_id d.plan id g (F.guest ∙ sym a) (rw D.plan in_plan) in
      let same : id ≡ id_of p g = sym (rw D.plan at found) in
      n (same, (F.number ∙ ap suc (sym b), free_taken d id task k t F))

  -- One tick more is done since, over a tick.
  since_next : (m : ℕ) (d : Dispatcher) → Sound p d → Since p g i m d → Since p g i (suc m) (next d)
  since_next m d D S = by (task_tick d D.shaped g i (rw D.plan in_plan) (rw D.plan in_guest))
    where
      by : (a : ℕ) × TaskTick i a (tasks_at d g) (tasks_at (next d) g) → Since p g i (suc m) (next d)
      by (a, t) = record {
        waits = omega (arith, S.waits, t.waited i (omega arith));
        age = λ r.
            let old : 0 < rest_at d g i = omega (arith, t.less i (omega arith)) in
            omega (arith, S.age old, t.older old);
      }

  -- As many ticks are done since, over a taken release of another task.
  since_else :
      (m : ℕ) (d : Dispatcher) (k t : ℕ)
      → Sound p d
      → k < d.plan.count
      → t < (guest_in d k).tasks
      → (place_at g i ≡ place_at k t → ⊥)
      → Since p g i m d
      → Since p g i m (taken d k t)
  since_else m d k t D kh th n S =
      let E = taken_else d D.shaped k t kh th g i n in
      record {
        waits = omega (arith, E.due, S.waits);
        age = λ r. omega (arith, E.old, S.age (omega (arith, E.left)));
      }

  -- No tick is done since, at a taken release of this task.
  pub since_taken : (d : Dispatcher) → Sound p d → wait_at d g i ≡ 0 → rest_at d g i ≡ 0 → Since p g i 0 (taken d g i)
  since_taken d D due free =
      let T = taken_here d D.shaped g i (rw D.plan in_plan) (rw D.plan in_guest) due free in
      let e : every_in d.plan g i ≡ every_in p g i = ap (λ (z : Plan). every_in z g i) D.plan in
      record { waits = omega (arith, T.waits); age = λ r. omega (arith, T.young) }

  -- There is one answer more.
  one_more_lem : (m : ℕ) (L : List Answer) (a : Answer) → suc (m + length L) ≡ m + length (L ++ (a ∷ []))
  one_more_lem m L a = simp length-append (omega arith)

  -- Over a history in which no release of the task is taken, m counts the ticks.
  pub since_play :
      (ds : List Call) (m : ℕ) (d : Dispatcher)
      → Sound p d
      → NoneTaken (id_of p g) (suc i) ds d
      → Since p g i m d
      → Since p g i (m + ticks_in ds d) (play ds d)
  since_play ds m d D none S =
      subst (λ (z : ℕ). Since p g i (m + z) (play ds d)) (answers_length ds d D)
      (play_keeps p (λ L e. Since p g i (m + length L) e) (λ a b e. Takes a b e (id_of p g) (suc i) → ⊥)
      (λ L e E I. subst (λ (z : ℕ). Since p g i z (next e)) (one_more_lem m L (answer e)) (since_next (m + length L) e E I))
      (λ L e id task k t E n F I. since_else (m + length L) e k t E F.in_plan F.in_guest
      (elsewhere e id task k t E n F) I)
      ds [] d none
      (record { sound = D; holds = subst (λ (z : ℕ). Since p g i z d) (let q : m ≡ m + 0 = omega arith in q) S })
      ).holds

  -- A task without job and wait stays so over a tick.
  never_next : (d : Dispatcher) → Sound p d → Never g i d → Never g i (next d)
  never_next d D N = by (task_tick d D.shaped g i (rw D.plan in_plan) (rw D.plan in_guest))
    where
      by : (a : ℕ) × TaskTick i a (tasks_at d g) (tasks_at (next d) g) → Never g i (next d)
      by (a, t) =
          record {
            free = omega (arith, N.free, t.less i (omega arith));
            due = omega (arith, N.due, t.waited i (omega arith));
          }

  -- A task without job and wait stays so over a taken release of another.
  never_else :
      (d : Dispatcher) (k t : ℕ)
      → Sound p d
      → k < d.plan.count
      → t < (guest_in d k).tasks
      → (place_at g i ≡ place_at k t → ⊥)
      → Never g i d
      → Never g i (taken d k t)
  never_else d k t D kh th n N =
      let E = taken_else d D.shaped k t kh th g i n in
      record { free = omega (arith, E.left, N.free); due = omega (arith, E.due, N.due) }

  -- Over a history in which no release of the task is taken, it has no job and no wait.
  pub never_play :
      (ds : List Call) (d : Dispatcher) → Sound p d → NoneTaken (id_of p g) (suc i) ds d → Never g i d
      → Never g i (play ds d)
  never_play ds d D none N =
      (play_keeps p (λ L e. Never g i e) (λ a b e. Takes a b e (id_of p g) (suc i) → ⊥) (λ L e E I. never_next e E I)
      (λ L e id task k t E n F I. never_else e k t E F.in_plan F.in_guest (elsewhere e id task k t E n F) I)
      ds [] d none (record { sound = D; holds = N })
      ).holds
