-- The task part of the invariant: while tasks up to i have run left, the guest's ticks since the window began are what
-- these tasks lost.
-- Inner: no promise of an entry names this.
-- The window began d ticks before a period's end, with e capacity left; k periods began since; the guest had s ticks;
-- n j releases of task j were taken.
-- A release of a bound task is taken at a period's start alone, and a period that starts now is among the k: so none
-- of the d ticks before the first of them count for it.
use Rattle.std.specs.Prelude.{◌≡◌, Bool, ℕ, suc, ◌+◌, ◌-◌, ◌*◌, ◌≤◌, ◌<◌}
use Rattle.lists.specs.Sum.{sum_to}
use Rattle.equation.specs.System.{gap_for, System}
use Rattle.windows.specs.TaskTick.{Tasks}

-- The invariant, for task i with a solution w, in a guest that holds h at position p.
pub record Window (S : System) (is_bound : ℕ → Bool) (i w p h : ℕ) (v : Tasks) : Type 0 where
  pub k : ℕ
  pub e : ℕ
  pub d : ℕ
  pub s : ℕ
  pub n : ℕ → ℕ
  pub gap : d ≤ e + (S.period - S.capacity)
  pub early : e ≤ S.capacity
  pub begins : S.period ≤ k * S.period + p + d
  pub starts : p ≡ 0 → 0 < k
  pub had : s + h ≡ e + k * S.capacity
  pub jobs : s + sum_to v.rest (suc i) ≡ sum_to (λ j. n j * S.run j) (suc i)
  pub counts : (j : ℕ) → j < i → 0 < n j
      → n j * S.every j + S.period ≤ k * S.period + p + gap_for (is_bound j) d + v.wait j
  pub own : n i ≤ 1
  pub ended : v.rest i ≡ 0 → n i ≡ 0
  pub aged : 0 < v.rest i → v.age i + S.period ≤ k * S.period + p + gap_for (is_bound i) d
  pub inside : e + k * S.period + p < S.period + w
