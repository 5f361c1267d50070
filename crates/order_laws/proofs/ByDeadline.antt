-- One guest's tasks in two orders, the second by deadline: where all are met in the first, all are met in the second.
-- For a task of the second let m be the lowest, in the first, of it and those above it. Its window holds one release of
-- m itself, and all the others stand above m; so the load of m there is no less than that of the task, and the
-- comparison of two systems gives the task a window that is no longer. Assumes nothing.
use Rattle.std.specs.Prelude.{Option, Some, None, is_some}
use mathlib.Core.Path.{◌≡◌, refl, ap}
use mathlib.Core.Bool.{true, false≢true}
use mathlib.Core.Logic.{⊎_elim}
use Prim.Native.Nat.{ℕ, suc, ◌+◌, ◌-◌, ◌*◌, ◌≤◌, ◌<◌}
use native.Mathlib.Nat.{eq-or-lt_of_le, le_refl, mul-le-mul_right}
use native.Mathlib.Omega.{arith}
use Rattle.lists.specs.Sum.{sum_to}
use Rattle.rounding.specs.Asked.{asked}
use Rattle.rounding.specs.Up.{up}
use Rattle.equation.specs.Solve.{solve}
use Rattle.equation.specs.System.{System, load, right, later, task_under}
use Rattle.lists.proofs.Search.{is_at_lem}
use Rattle.lists.proofs.Sum.{sum_last, sum_le, sum_same}
use Rattle.rounding.proofs.Up.{up_least, le_up, up_mono}
use Rattle.equation.proofs.Compare.{easier_done}
use Rattle.equation.proofs.Solve.{Answers, solve_answers, solve_by}
use Rattle.equation.proofs.System.{Regular, load_some}
use Rattle.equation.proofs.Climb.{done_solution}
use Rattle.equation.proofs.Done.{solution_done}
use Rattle.order_laws.proofs.Orders.{furthest}
use Rattle.order_laws.proofs.Sum.{sum_once}

-- A window of at least 1 that solves the equation of task i, with w + J at most d.
pub record Meets (S : System) (i d w : ℕ) : Type 0 where
  pub low : 1 ≤ w
  pub sol : w ≡ right S i w
  pub in_time : w + S.gap i ≤ d

module _ (S : System) (i d : ℕ) where
  -- A task that has a response of at most d has such a window.
  pub response_meets : is_some (task_under S i d) ≡ true → (w : ℕ) × Meets S i d w
  unfolding task_under
  response_meets e = go (solve (right S i) (d - S.gap i)) (solve_answers (right S i) (d - S.gap i)) e
    where
      go : (f : Option ℕ) → Answers (right S i) (d - S.gap i) f → is_some (later (S.gap i) f) ≡ true
          → (w : ℕ) × Meets S i d w
      go None a q = absurd (false≢true q)
      go (Some w) a q = (w, record { low = a.low; sol = a.sol; in_time = omega (arith, a.low, a.high) })

  -- One that has such a window has a response of at most d.
  pub meets_response : (w : ℕ) → Meets S i d w → is_some (task_under S i d) ≡ true
  unfolding task_under
  meets_response w m =
      is_at_lem (ap (later (S.gap i))
      (solve_by (right S i) (d - S.gap i) w m.low (omega (arith, m.in_time)) m.sol).1)

-- The first n tasks of one guest in two orders: the one at place i of S' stands at place `at i` of S, and each release
-- meets the same gap.
pub record TwoOrders (S S' : System) (due due' at : ℕ → ℕ) (n J : ℕ) : Type 0 where
  pub capacity : S'.capacity ≡ S.capacity
  pub period : S'.period ≡ S.period
  pub above : S'.above ≡ S.above
  pub low : (i : ℕ) → i < n → at i < n
  pub once : (i j : ℕ) → i < n → j < n → at i ≡ at j → i ≡ j
  pub run : (i : ℕ) → i < n → S'.run i ≡ S.run (at i)
  pub every : (i : ℕ) → i < n → S'.every i ≡ S.every (at i)
  pub deadline : (i : ℕ) → i < n → due' i ≡ due (at i)
  pub gap : (i : ℕ) → i < n → S.gap i ≡ J
  pub gap' : (i : ℕ) → i < n → S'.gap i ≡ J
  pub runs : (i : ℕ) → i < n → 1 ≤ S.run i
  pub some : (i : ℕ) → i < n → 1 ≤ S.every i
  pub held : (i : ℕ) → i < n → due i ≤ S.every i

module _ (S S' : System) (due due' at : ℕ → ℕ) (n J : ℕ) (o : TwoOrders S S' due due' at n J) where
  -- The load of a task in the second order, and that of the lowest of it and those above it in the first.
  module _ (i m w : ℕ) (h : i < n) (l : m < n) (below : (j : ℕ) → j ≤ i → at j ≤ m) (t : Meets S m (due m) w) where
    -- What the task at place k of the first order asks of the window.
    abbrev asks : ℕ → ℕ
    asks k = up (w + J) (S.every k) * S.run k

    -- The task at place i asks for its run at least.
    own : S'.run i ≤ asks (at i)
    own =
        let b : at i < n = o.low i h in
        let one : 1 ≤ up (w + J) (S.every (at i)) =
        le_up 1 (w + J) (S.every (at i)) (o.some (at i) b) (omega (arith, t.low)) in
        omega (arith, o.run i h, mul-le-mul_right (S.run (at i)) one)

    -- The lowest asks for its run at most: its deadline is at most its period.
    lowest : asks m ≤ S.run m
    lowest =
        let one : up (w + J) (S.every m) ≤ 1 =
        up_least (w + J) (S.every m) 1 (o.some m l) (omega (arith, o.held m l, t.in_time, o.gap m l)) in
        omega (arith, mul-le-mul_right (S.run m) one)

    -- The tasks above ask no more of a window that is no longer.
    others : (u : ℕ) → u ≤ w
        → sum_to (λ j. up (u + S'.gap j) (S'.every j) * S'.run j) i ≤ sum_to (λ j. asks (at j)) i
    others u b =
        sum_le _ _ i (λ j k. (
        let c : j < n = omega arith in
        rw (o.gap' j c, o.every j c, o.run j c)
        (mul-le-mul_right (S.run (at j)) (up_mono (S.every (at j)) (omega arith)))))

    -- The load is no more.
    pub load_under : (u : ℕ) → u ≤ w → load S' i u ≤ load S m w
    unfolding load asked
    load_under u b =
        let all : sum_to (λ j. asks (at j)) (suc i) ≤ sum_to asks (suc m) =
        sum_once asks at (suc i) (suc m) (λ j k. omega (arith, below j (omega arith)))
        (λ j k a c. o.once j k (omega arith) (omega arith)) in
        let same : sum_to (λ k. up (w + S.gap k) (S.every k) * S.run k) m ≡ sum_to asks m =
        sum_same _ asks m (λ k a. rw (o.gap k (omega arith)) refl) in
        omega (arith, own, lowest, others u b, sum_last (λ j. asks (at j)) i, sum_last asks m)

  -- So the task has a window that is no longer.
  sooner : (x i m w : ℕ) (h : i < n) (l : m < n) (below : (j : ℕ) → j ≤ i → at j ≤ m) → Regular S' i x
      → Meets S m (due m) w → (y : ℕ) × (1 ≤ y) × (y ≤ w) × (y ≡ right S' i y)
  sooner x i m w h l below s t =
      let some : 0 < S.capacity = omega (arith, s.some, o.capacity) in
      let within : S.capacity ≤ S.period = omega (arith, s.within, o.capacity, o.period) in
      done_solution S' i x s w
      (easier_done S S' i x some s
      record {
        period = o.period;
        capacity = omega (arith, o.capacity);
        above = λ v. omega (arith, ap (λ (f : ℕ → ℕ). f v) o.above);
      }
      (load S m w) (load S' i w) w (load_some S' i w s.runs) (load_under i m w h l below t w (omega arith))
      (solution_done S m w some within (o.runs m l) t.sol))

  -- The theorem: the second order goes by deadline, so the window is in time.
  pub by_deadline : ((i j : ℕ) → i < j → j < n → due' i ≤ due' j)
      → ((i : ℕ) → i < n → (x : ℕ) × Regular S' i x)
      → ((i : ℕ) → i < n → (w : ℕ) × Meets S i (due i) w)
      → (i : ℕ) → i < n → (w : ℕ) × Meets S' i (due' i) w
  by_deadline rises sure met i h =
      let (a, b, below) = furthest at i in
      let c : a < n = omega arith in
      let m = at a in
      let l : m < n = o.low a c in
      let (w, t) = met m l in
      let (x, s) = sure i h in
      let y = sooner x i m w h l below s t in
      let late : due' a ≤ due' i =
      ⊎_elim (λ e. rw e (le_refl (due' i))) (λ q. rises a i q h) (eq-or-lt_of_le b) in (
        y.0,
        record {
          low = y.1;
          sol = y.3;
          in_time = omega (arith, y.2, o.gap' i h, t.in_time, o.gap m l, o.deadline a c);
        },
      )
