-- A taken release keeps the window of task i, whichever task of the guest is released: one more release is counted.
-- Where the task is bound, a period starts with its release, and the window has counted that period. Assumes nothing.
use mathlib.Core.Path.{◌≡◌, refl, ap}
use mathlib.Core.Bool.{Bool, true, false}
use Prim.Native.Nat.{ℕ, suc, ◌+◌, ◌*◌, ◌≤◌, ◌<◌}
use native.Mathlib.Nat.{mul-le-mul_right}
use native.Mathlib.Decide.{dec_le, dec_lt, ℕ_discrete}
use native.Mathlib.Omega.{arith}
use lib.Dec.{eqb}
use borrow.Author.Tests.{eq-eqb, ne_eqb}
use Rattle.lists.specs.Sum.{sum_to}
use Rattle.equation.specs.System.{gap_for, System}
use Rattle.windows.specs.TaskTick.{Tasks, Taken, Same}
use Rattle.windows.specs.Window.{Window}
use Rattle.lists.proofs.Sum.{sum_same, sum_bump}

-- a test as a number: 1 where it holds
unfoldable one : Bool → ℕ
one true = 1
one false = 0

-- counts with one more at place j
unfoldable more : (ℕ → ℕ) → ℕ → ℕ → ℕ
more n j m = n m + one (eqb m j)

-- the count at place j
more_at : (n : ℕ → ℕ) (j : ℕ) → more n j j ≡ n j + 1
unfolding more one
more_at n j = rw (eq-eqb j j refl) refl

-- the count at any other place
more_else : (n : ℕ → ℕ) (j m : ℕ) → (m ≡ j → ⊥) → more n j m ≡ n m
unfolding more one
more_else n j m h = rw (ne_eqb m j h) (omega arith)

-- where no task up to i changed, neither did the window
pub window_same :
    {S : System} {is_bound : ℕ → Bool} {i w p h : ℕ} {v v' : Tasks}
    → ((m : ℕ) → m ≤ i → Same m v v')
    → Window S is_bound i w p h v
    → Window S is_bound i w p h v'
window_same {S} {i = i} {v = v} {v' = v'} E W =
    let I = E i (omega arith) in
    record {
      k = W.k;
      e = W.e;
      d = W.d;
      s = W.s;
      n = W.n;
      gap = W.gap;
      early = W.early;
      begins = W.begins;
      starts = W.starts;
      had = W.had;
      jobs = omega (arith, W.jobs, sum_same v'.rest v.rest (suc i) (λ m l. (E m (omega arith)).left));
      counts = λ j l o. omega (arith, W.counts j l o, (E j (omega arith)).due);
      own = W.own;
      ended = λ r. W.ended (omega (arith, I.left));
      aged = λ r. omega (arith, W.aged (omega (arith, I.left)), I.old);
      inside = W.inside;
    }

-- what a task may count of the window where its release is taken makes up a period: for a bound task, one of the k
begun_for : (k T p d : ℕ) (b : Bool) → T ≤ k * T + p + d → (b ≡ true → 0 < k) → T ≤ k * T + p + gap_for b d
unfolding gap_for
begun_for k T p d true h s = omega (arith, mul-le-mul_right {m = 1} {n = k} T (s refl))
begun_for k T p d false h s = h

-- A taken release of task j, up to i.
module _ {S : System} {is_bound : ℕ → Bool} {i w p h j : ℕ} {v v' : Tasks}
    (l : j ≤ i) (works : 0 < S.run i) (at : is_bound j ≡ true → p ≡ 0)
    (R : Taken S.run S.every j v v')
    (E : (m : ℕ) → m ≤ i → (m ≡ j → ⊥) → Same m v v')
    (W : Window S is_bound i w p h v) where
  -- what j may count of this window makes up a period
  begun_now : S.period ≤ W.k * S.period + p + gap_for (is_bound j) W.d
  begun_now = begun_for W.k S.period p W.d (is_bound j) W.begins (λ b. W.starts (at b))

  -- the run left and the releases counted rise by the run of j
  jobs_more : W.s + sum_to v'.rest (suc i) ≡ sum_to (λ m. more W.n j m * S.run m) (suc i)
  jobs_more =
      omega (
        arith,
        W.jobs,
        sum_bump v.rest v'.rest (S.run j) (suc i) j (omega arith) (omega (arith, R.free, R.filled))
            (λ m a n. omega (arith, (E m (omega arith) n).left)),
        sum_bump (λ m. W.n m * S.run m) (λ m. more W.n j m * S.run m) (S.run j) (suc i) j (omega arith)
            (omega (arith, ap (λ (z : ℕ). z * S.run j) (more_at W.n j)))
            (λ m a n. omega (arith, ap (λ (z : ℕ). z * S.run m) (more_else W.n j m n))),
      )

  -- the releases of j before this one, its first or a later one, are within the window
  counts_here : j < i → W.n j * S.every j + S.period ≤ W.k * S.period + p + gap_for (is_bound j) W.d
  counts_here a =
      elim (dec_lt 0 (W.n j)) [
        | yes o ↦ omega (arith, W.counts j a o, R.due)
        | no o ↦
            (let z : W.n j ≡ 0 = omega arith in
            omega (arith, ap (λ (u : ℕ). u * S.every j) z, begun_now))
      ]

  -- the releases of each task above i are within the window and the task's wait
  counts_more : (m : ℕ) → m < i → 0 < more W.n j m
      → more W.n j m * S.every m + S.period ≤ W.k * S.period + p + gap_for (is_bound m) W.d + v'.wait m
  counts_more m a o =
      elim (ℕ_discrete m j) [
        | yes e ↦
            (let c = counts_here (rw e at a) in
            rw e (omega (arith, c, R.waits, ap (λ (z : ℕ). z * S.every j) (more_at W.n j))))
        | no n ↦
            (let q = more_else W.n j m n in
            omega (arith, W.counts m a (omega arith), (E m (omega arith) n).due, ap (λ (z : ℕ). z * S.every m) q))
      ]

  -- one more release is counted
  window_more : Window S is_bound i w p h v'
  window_more = record {
    k = W.k;
    e = W.e;
    d = W.d;
    s = W.s;
    n = more W.n j;
    gap = W.gap;
    early = W.early;
    begins = W.begins;
    starts = W.starts;
    had = W.had;
    jobs = jobs_more;
    counts = counts_more;
    own =
        elim (ℕ_discrete i j) [
          | yes e ↦ rw e (omega (arith, more_at W.n j, rw e at (W.ended (rw e R.free))))
          | no n ↦ omega (arith, W.own, more_else W.n j i n)
        ];
    ended = λ r.
        elim (ℕ_discrete i j) [
          | yes e ↦ absurd (omega (arith, rw e at r, rw e at works, R.filled))
          | no n ↦ omega (arith, more_else W.n j i n, W.ended (omega (arith, (E i (omega arith) n).left)))
        ];
    aged = λ r.
        elim (ℕ_discrete i j) [
          | yes e ↦ rw e (omega (arith, R.young, begun_now))
          | no n ↦
              (let I = E i (omega arith) n in
              omega (arith, W.aged (omega (arith, I.left)), I.old))
        ];
    inside = W.inside;
  }

-- a taken release of task j, wherever j stands
pub window_taken :
    {S : System} {is_bound : ℕ → Bool} {i w p h : ℕ} (j : ℕ) {v v' : Tasks}
    → 0 < S.run i
    → (is_bound j ≡ true → p ≡ 0)
    → Taken S.run S.every j v v'
    → ((m : ℕ) → m ≤ i → (m ≡ j → ⊥) → Same m v v')
    → Window S is_bound i w p h v
    → Window S is_bound i w p h v'
window_taken {i = i} j works at R E W =
    elim (dec_le j i) [
      | yes l ↦ window_more l works at R E W
      | no n ↦ window_same (λ m l. E m l (λ e. omega arith)) W
    ]
