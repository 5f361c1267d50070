-- What the tests of the ranges say. Assumes nothing.
use mathlib.Core.Path.{◌≡◌}
use mathlib.Core.Bool.{Bool, true}
use Prim.Native.Nat.{ℕ, ◌%◌, ◌≤◌, ◌<◌}
use native.Mathlib.Omega.{arith}
use Rattle.plan.specs.declared.Guest.{Guest}
use Rattle.plan.specs.Records.{run_of, every_of, deadline_of}
use Rattle.plan.specs.Marks.{is_bound}
use Rattle.plan.specs.Ranges.{most_tasks, longest, within, head_ok, guest_ok, task_ok, start_ok, tasks_ok}
use Rattle.std.proofs.lemmas.Bool.Decides.{nat_tests}
use Rattle.lists.specs.All.{all_to}
use Rattle.lists.proofs.All.{and_left, and_right, all_at}

-- a task in its ranges
pub record TaskIn (run every deadline : ℕ) : Type 0 where
  pub runs : 1 ≤ run
  pub run_short : run ≤ longest
  pub some : 1 ≤ every
  pub short : every ≤ longest
  pub due : 1 ≤ deadline
  pub in_time : deadline ≤ every

-- a guest whose own numbers are in their ranges, whatever its tasks are
pub record HeadIn (id capacity period tasks : ℕ) : Type 0 where
  pub named : 1 ≤ id
  pub some : 1 ≤ capacity
  pub fits : capacity ≤ period
  pub short : period ≤ longest
  pub many : 1 ≤ tasks
  pub few : tasks ≤ most_tasks

-- a guest that is in its ranges with all its tasks
pub record GuestIn (g : Guest) : Type 0 where
  pub head : HeadIn g.id g.capacity g.period g.tasks
  pub tasks : (i : ℕ) → i < g.tasks → TaskIn (run_of g i) (every_of g i) (deadline_of g i)
  pub starts : (i : ℕ) → i < g.tasks → is_bound g i ≡ true → every_of g i % g.period ≡ 0

-- a number that is from low to high
pub within_says : (low high x : ℕ) → within low high x ≡ true → (low ≤ x) × (x ≤ high)
within_says low high x e = grind (arith, nat_tests)

-- a number from 1 to high passes the test
pub within_right : (high x : ℕ) → 1 ≤ x → x ≤ high → within 1 high x ≡ true
within_right high x l h = grind (arith, nat_tests)

-- a guest that passes refusal 4's test is in its ranges
pub head_says :
    (id capacity period tasks : ℕ) → head_ok id capacity period tasks ≡ true → HeadIn id capacity period tasks
unfolding head_ok
head_says id capacity period tasks e = grind (arith, nat_tests)

-- a guest in its ranges passes refusal 4's test
pub head_right :
    {id capacity period tasks : ℕ} → HeadIn id capacity period tasks → head_ok id capacity period tasks ≡ true
unfolding head_ok
head_right {id} {capacity} {period} {tasks} h = grind (arith, nat_tests)

-- a task that passes refusal 6's test is in its ranges
pub task_says_lem : (run every deadline : ℕ) → task_ok run every deadline ≡ true → TaskIn run every deadline
unfolding task_ok
task_says_lem run every deadline e = grind (arith, nat_tests)

-- a bound task whose period passes is a multiple of its guest's
pub start_says : (b : Bool) (period every : ℕ) → start_ok b period every ≡ true → b ≡ true → every % period ≡ 0
unfolding start_ok
start_says b period every e h = grind (arith, nat_tests)

-- a guest that passes both tests is in its ranges with all its tasks
pub guest_says_lem : (g : Guest) → guest_ok g ≡ true → tasks_ok g ≡ true → GuestIn g
unfolding tasks_ok
guest_says_lem g h t =
    let inner = and_left (all_to _ g.tasks) _ t in
    let starts = and_right (all_to _ g.tasks) _ t in record {
      head = head_says g.id g.capacity g.period g.tasks h;
      tasks = λ i l. task_says_lem (run_of g i) (every_of g i) (deadline_of g i) (all_at _ g.tasks i l inner);
      starts = λ i l b. start_says (is_bound g i) g.period (every_of g i) (all_at _ g.tasks i l starts) b;
    }
