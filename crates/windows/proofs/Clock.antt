-- A tick and a taken release keep the waits and ages. Assumes nothing.
use mathlib.Core.Path.{◌≡◌}
use Prim.Native.Nat.{ℕ, ◌≤◌}
use native.Mathlib.Decide.{ℕ_discrete}
use native.Mathlib.Omega.{arith}
use Rattle.windows.specs.TaskTick.{Tasks, oldest, TaskTick, Taken, Same}
use Rattle.windows.specs.Clock.{Clock}

-- a tick keeps waits and ages in order; ages stop at the longest period
pub clock_tick :
    {a i : ℕ} {every : ℕ → ℕ} {v v' : Tasks}
    → every i ≤ oldest
    → TaskTick i a v v'
    → Clock i every v
    → Clock i every v'
clock_tick {i = i} short t K = record {
  waits = λ j l. omega (arith, K.waits j l, t.waited j l);
  since = λ r.
      let s = K.since (omega (arith, t.less i (omega arith))) in
      omega (arith, t.waited i (omega arith), t.older (omega (arith, t.less i (omega arith))));
}

-- a taken release of any task keeps them in order, where every other task is as it was
pub clock_taken :
    {i j : ℕ} {run every : ℕ → ℕ} {v v' : Tasks}
    → Taken run every j v v'
    → ((m : ℕ) → m ≤ i → (m ≡ j → ⊥) → Same m v v')
    → Clock i every v
    → Clock i every v'
clock_taken {i} {j} {every = every} {v' = v'} R S K = record {
  waits = λ m l.
      elim (ℕ_discrete m j) [
        | yes e ↦ rw e (omega (arith, R.waits))
        | no n ↦ omega (arith, (S m l n).due, K.waits m l)
      ];
  since = λ r.
      elim (ℕ_discrete i j) [
        | yes e ↦ rw e (omega (arith, R.waits))
        | no n ↦
            (let q = S i (omega arith) n in
            omega (arith, q.due, q.old, K.since (omega (arith, q.left))))
      ];
}

-- where no task up to i changed, waits and ages stay in order
pub clock_same :
    {i : ℕ} {every : ℕ → ℕ} {v v' : Tasks}
    → ((m : ℕ) → m ≤ i → Same m v v')
    → Clock i every v
    → Clock i every v'
clock_same {i} S K =
    let I = S i (omega arith) in
    record {
      waits = λ m l. omega (arith, (S m l).due, K.waits m l);
      since = λ r. omega (arith, I.due, I.old, K.since (omega (arith, I.left)));
    }
