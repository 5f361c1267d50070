-- One tick of the state, as the task part of the windows sees it. Assumes nothing.
use mathlib.Core.Path.{◌≡◌, ap, subst, ◌∙◌}
use mathlib.Core.List.{List}
use Prim.Native.Nat.{ℕ, suc, ◌-◌, ◌+◌, ◌≤◌, ◌<◌, min}
use native.Mathlib.Decide.{dec_lt, ℕ_discrete}
use native.Mathlib.Omega.{arith}
use lib.Dec.{ltb}
use lib.ListN.{set}
use lib.Seq.{get_or-set_other}
use Rattle.plan.specs.Ranges.{longest}
use Rattle.lists.specs.Places.{nth}
use Rattle.lists.specs.Search.{first_from}
use Rattle.dispatcher.specs.declared.Dispatcher.{Dispatcher}
use Rattle.arrays.specs.Place.{place_at}
use Rattle.dispatcher.specs.State.{guest_in, rest_at, wait_at, age_at}
use Rattle.dispatcher.specs.Tick.{holder, worker, next}
use Rattle.windows.specs.Served.{ServedFirst}
use Rattle.windows.specs.TaskTick.{TaskTick}
use Rattle.lists.proofs.Sum.{sum_same}
use Rattle.windows.proofs.Served.{served_one, served_le, served_last}
use Rattle.dispatcher_laws.proofs.Seen.{tasks_at, Shaped}
use Rattle.dispatcher_laws.proofs.Served.{first_served}
use Rattle.dispatcher_laws.proofs.Tick.{rest_hit, rest_idle, rest_miss, wait_falls, age_rises}

-- The task that has the tick, where guest g has it, is the first of g's with run left.
worker_of : (d : Dispatcher) (g : ℕ) → holder d ≡ g → worker d ≡ first_from (λ t. ltb 0 (rest_at d g t)) (guest_in d g).tasks 0
unfolding worker
worker_of d g e = ap (λ (z : ℕ). first_from (λ t. ltb 0 (rest_at d z t)) (guest_in d z).tasks 0) e

-- The tick of the tasks of guest g, up to task i.
module _ (d : Dispatcher) (H : Shaped d) (g i : ℕ) (in_plan : g < d.plan.count) (in_guest : i < (guest_in d g).tasks) where
  -- Waits fall.
  waited : (j : ℕ) → j ≤ i → wait_at (next d) g j ≡ wait_at d g j - 1
  waited j l = wait_falls d H g j (omega (arith, H.few)) (omega (arith, H.tasks g in_plan))

  -- An unfinished job's age rises.
  older : 0 < rest_at d g i → age_at (next d) g i ≡ min (age_at d g i + 1) longest
  older h = age_rises d H g i (omega (arith, H.few)) (omega (arith, H.tasks g in_plan)) h

  -- Where another guest has the tick, no run left changes here.
  pub rest_else : (holder d ≡ g → ⊥) → (j : ℕ) → j ≤ i → rest_at (next d) g j ≡ rest_at d g j
  rest_else n j l =
      elim (dec_lt (holder d) d.plan.count) [
        | no h ↦ ap (λ (z : List ℕ). nth z (place_at g j)) (rest_miss d (omega arith))
        | yes h ↦
            elim (dec_lt (worker d) (guest_in d (holder d)).tasks) [
              | no m ↦ ap (λ (z : List ℕ). nth z (place_at g j)) (rest_idle d (omega arith))
              | yes m ↦
                  ap (λ (z : List ℕ). nth z (place_at g j)) (rest_hit d h m)
                  ∙ get_or-set_other d.rest (place_at (holder d) (worker d)) (place_at g j) (rest_at d (holder d) (worker d) - 1) 0
                  (λ e. n (omega (arith, H.tasks (holder d) h, H.tasks g in_plan)))
            ]
      ]

  -- The tick of another guest is a tick of the task part that serves none.
  pub task_else : (holder d ≡ g → ⊥) → TaskTick i 0 (tasks_at d g) (tasks_at (next d) g)
  task_else n = record {
    worked = λ h. omega (arith, sum_same (rest_at (next d) g) (rest_at d g) (suc i) (λ j l. rest_else n j (omega arith)));
    last = λ h e. omega (arith, rest_else n i (omega arith));
    less = λ j l. omega (arith, rest_else n j l);
    waited = waited;
    older = older;
  }

  -- Where this guest has the tick, its first task with run left loses one.
  pub task_served : holder d ≡ g → ServedFirst i (worker d) (rest_at d g) (rest_at (next d) g)
  task_served e =
      first_served d.rest (next d).rest (λ j. place_at g j) (guest_in d g).tasks (worker d) i in_guest
      (worker_of d g e)
      (λ l. subst (λ (z : ℕ). (next d).rest ≡ set d.rest (place_at z (worker d)) (rest_at d z (worker d) - 1)) e
      (rest_hit d (rw e in_plan) (rw e l)))
      (λ l. rest_idle d (rw e l))
      (λ j l. omega (arith, H.few, H.tasks g in_plan, H.rest_long)) (λ j k q. omega arith)

  -- The tick of this guest is a tick of the task part that serves one.
  pub task_mine : holder d ≡ g → TaskTick i 1 (tasks_at d g) (tasks_at (next d) g)
  task_mine e = record {
    worked = served_one (task_served e);
    last = served_last (task_served e);
    less = served_le (task_served e);
    waited = waited;
    older = older;
  }

  -- Whoever has it, the tick is one of the task part's ticks.
  pub task_tick : (a : ℕ) × TaskTick i a (tasks_at d g) (tasks_at (next d) g)
  task_tick =
      elim (ℕ_discrete (holder d) g) [
        | yes e ↦ (1, task_mine e)
        | no n ↦ (0, task_else n)
      ]
