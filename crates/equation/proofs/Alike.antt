-- Two systems that are alike in their first tasks give those tasks the same responses. Assumes nothing.
use mathlib.Core.Path.{◌≡◌, refl, ap, ◌∙◌, fun_ext}
use Prim.Native.Nat.{ℕ, ◌-◌, ◌<◌}
use native.Mathlib.Omega.{arith}
use Rattle.equation.specs.Solve.{solve}
use Rattle.equation.specs.System.{System, load, right_at, right, later, task_under}
use Rattle.rounding.proofs.Asked.{asked_same}

-- The guests of both are the same, and so are their first n tasks.
pub record SameTasks (S S' : System) (n : ℕ) : Type 0 where
  pub capacity : S.capacity ≡ S'.capacity
  pub period : S.period ≡ S'.period
  pub above : S.above ≡ S'.above
  pub run : (j : ℕ) → j < n → S.run j ≡ S'.run j
  pub every : (j : ℕ) → j < n → S.every j ≡ S'.every j
  pub gap : (j : ℕ) → j < n → S.gap j ≡ S'.gap j

module _ (S S' : System) (n i : ℕ) (h : i < n) (a : SameTasks S S' n) where
  -- each of those tasks has the same load
  load_alike : (w : ℕ) → load S i w ≡ load S' i w
  unfolding load
  load_alike w =
      let e = asked_same S.run S.every S.gap S'.run S'.every S'.gap i w
      (λ j l. a.run j (omega arith)) (λ j l. a.every j (omega arith)) (λ j l. a.gap j (omega arith)) in
      omega (arith, a.run i h)

  -- and the same response
  pub task_alike : (most : ℕ) → task_under S i most ≡ task_under S' i most
  unfolding task_under right
  task_alike most =
      let J = S.gap i in
      ap
      (λ (l : ℕ → ℕ).
      later J (solve (λ w. right_at S.above S.capacity S.period (l w) w) (most - J)))
      (fun_ext load_alike)
      ∙ rw (a.capacity, a.period, a.above, a.gap i h) refl
