-- Two systems of the same tasks: where the second has no less capacity and no larger gap, its responses are no later.
-- Assumes nothing.
use Rattle.std.specs.Prelude.{Option, Some, None}
use mathlib.Core.Path.{◌≡◌, refl, ap}
use Prim.Native.Nat.{ℕ, ◌+◌, ◌-◌, ◌≤◌, ◌<◌}
use native.Mathlib.Omega.{arith}
use Rattle.rounding.specs.Asked.{asked}
use Rattle.equation.specs.Solve.{solve}
use Rattle.equation.specs.System.{System, load, right, response_of, later, task_under}
use Rattle.rounding.proofs.Asked.{asked_le}
use Rattle.equation.proofs.Solve.{solve_by, Solved, solve_answers}
use Rattle.equation.proofs.System.{Regular, load_some}
use Rattle.equation.proofs.Done.{solution_done}
use Rattle.equation.proofs.Climb.{done_solution}
use Rattle.equation.proofs.Compare.{Easier, easier_done}

-- The second has the first's tasks, at no less capacity in the same period, under guests that take no more; no gap down
-- to task i is larger.
pub record Roomier (S S' : System) (i : ℕ) : Type 0 where
  pub period : S'.period ≡ S.period
  pub capacity : S.capacity ≤ S'.capacity
  pub above : (v : ℕ) → S'.above v ≤ S.above v
  pub run : S'.run ≡ S.run
  pub every : S'.every ≡ S.every
  pub gap : (j : ℕ) → j ≤ i → S'.gap j ≤ S.gap j

-- the window behind a task's response
window_of_lem : (gap r : ℕ) (f : Option ℕ) → later gap f ≡ Some r → (w : ℕ) × (f ≡ Some w) × (r ≡ w + gap)
unfolding response_of
window_of_lem gap r None e = absurd (let z : ◌≡◌ {A = ℕ} 0 1 = cc in omega arith)
window_of_lem gap r (Some w) e = (w, refl, (let k : r ≡ w + gap = cc in k))

-- a window that solves an equation has a least one behind it, so a response that is no later
respond_by : (f : ℕ → ℕ) (d J J' w y r : ℕ) → J' ≤ J → w ≤ d - J → r ≡ w + J → 1 ≤ y → y ≤ w → y ≡ f y
    → (r' : ℕ) × (later J' (solve f (d - J')) ≡ Some r') × (r' ≤ r)
unfolding response_of
respond_by f d J J' w y r g high e low le q =
    let found = solve_by f (d - J') y low (omega arith) q in
    let at = found.0 in
    let is : solve f (d - J') ≡ Some at = found.1 in
    (at + J', ap (later J') is, omega (arith, found.2))

module _ (S S' : System) (i x : ℕ) (some : 0 < S.capacity) (s : Regular S' i x) (e : Roomier S S' i) where
  -- smaller gaps load no more
  load_less : (u w : ℕ) → u ≤ w → load S' i u ≤ load S i w
  unfolding load
  load_less u w h =
      let less : asked S'.run S'.every S'.gap i u ≤ asked S.run S.every S.gap i w =
      rw (e.run, e.every)
      (asked_le S.run S.every S'.gap S.gap i u w (λ j l. omega (arith, e.gap j (omega arith)))) in
      omega (arith, ap (λ (f : ℕ → ℕ). f i) e.run)

  -- a window that solves the first's equation has one no later that solves the second's
  pub sooner : (w : ℕ) → w ≡ right S i w → (y : ℕ) × (1 ≤ y) × (y ≤ w) × (y ≡ right S' i y)
  sooner w sol =
      let runs : 0 < S.run i = omega (arith, s.runs, ap (λ (f : ℕ → ℕ). f i) e.run) in
      let within : S.capacity ≤ S.period = omega (arith, e.capacity, e.period, s.within) in
      let easier : Easier S S' = record { period = e.period; capacity = e.capacity; above = e.above } in
      done_solution S' i x s w
      (easier_done S S' i x some s easier (load S i w) (load S' i w) w (load_some S' i w s.runs) (load_less w w (omega arith))
      (solution_done S i w some within runs sol))

  -- a task that responds in the first responds in the second, no later
  pub respond_sooner : (most r : ℕ) → task_under S i most ≡ Some r
      → (r' : ℕ) × (task_under S' i most ≡ Some r') × (r' ≤ r)
  unfolding task_under
  respond_sooner most r q =
      let f = right S i in
      let J = S.gap i in
      let w = window_of_lem J r (solve f (most - J)) q in
      let o : Solved f (most - J) w.0 = rw w.1 at (solve_answers f (most - J)) in
      let y = sooner w.0 o.sol in
      respond_by (right S' i) most J (S'.gap i) w.0 y.0 r (e.gap i (omega arith)) o.high w.2
      y.1 y.2 y.3
