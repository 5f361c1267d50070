-- A tick keeps the task part. Strategy: when the window would pass w, the guest has had the whole load of w, and no
-- more than that load was asked for; so nothing is left at or above task i, and a new window starts. Assumes nothing.
use mathlib.Core.Path.{◌≡◌, refl, ap}
use mathlib.Core.Bool.{Bool}
use Prim.Native.Nat.{ℕ, suc, ◌+◌, ◌-◌, ◌*◌, ◌≤◌, ◌<◌}
use native.Mathlib.Nat.{mul-le-mul_right}
use native.Mathlib.Decide.{dec_lt}
use native.Mathlib.Omega.{arith}
use Rattle.lists.specs.Sum.{sum_to}
use Rattle.windows.specs.GuestTick.{Moved}
use Rattle.windows.specs.GuestTick.Moved.{on, over}
use Rattle.equation.specs.System.{gap_for, System, load}
use Rattle.windows.specs.TaskTick.{Tasks, TaskTick}
use Rattle.windows.specs.Clock.{Clock}
use Rattle.windows.specs.Window.{Window}
use Rattle.lists.proofs.Sum.{sum_last, sum_le, sum_zero, sum_at}
use Rattle.rounding.proofs.Asked.{asked_counts}
use Rattle.equation.proofs.System.{gap_for_grows}
use Rattle.windows.proofs.Equation.{Lies, enough}

-- What the guest part gives at a state: x is the guest's response.
pub record Given (S : System) (i w x p h : ℕ) : Type 0 where
  pub lies : Lies S i w
  pub some : 0 < w
  pub cap : S.capacity ≤ S.period
  pub resp : x ≤ S.period
  pub pos : p < S.period
  pub most : h ≤ S.capacity
  pub pace : S.capacity ≤ h + p
  pub full : h ≤ x - p
  pub last : lies.l + h ≤ S.capacity + (lies.v - p)

-- a window in which no release was taken yet, where no task up to i has run left
opened :
    {S : System} {is_bound : ℕ → Bool} {i w p h : ℕ} (v : Tasks) (k e d : ℕ)
    → d ≤ e + (S.period - S.capacity)
    → e ≤ S.capacity
    → S.period ≤ k * S.period + p + d
    → (p ≡ 0 → 0 < k)
    → h ≡ e + k * S.capacity
    → e + k * S.period + p < S.period + w
    → sum_to v.rest (suc i) ≡ 0
    → Window S is_bound i w p h v
opened {S} {i = i} v k e d gap early begins starts had inside z = record {
  k = k;
  e = e;
  d = d;
  s = 0;
  n = λ j. 0;
  gap = gap;
  early = early;
  begins = begins;
  starts = starts;
  had = omega arith;
  jobs = omega (arith, sum_zero (λ j. 0 * S.run j) (suc i) (λ j l. omega arith));
  counts = λ j l o. absurd (omega arith);
  own = omega arith;
  ended = λ r. refl;
  aged = λ r. absurd (omega (arith, sum_at v.rest (suc i) i (omega arith)));
  inside = inside;
}

-- Where no task up to i has run left, a window starts: at a period's start with it, else before the next one.
pub restart :
    {S : System} {is_bound : ℕ → Bool} {i w x p h : ℕ} (v : Tasks)
    → Given S i w x p h
    → sum_to v.rest (suc i) ≡ 0
    → Window S is_bound i w p h v
restart {S} {p = p} {h = h} v G z =
    elim (dec_lt 0 p) [
      | yes m ↦
          opened v 0 h (S.period - p) (omega arith) G.most (omega arith) (λ q. absurd (omega arith)) (omega arith)
          (omega arith) z
      | no m ↦
          opened v 1 0 0 (omega arith) (omega arith) (omega arith) (λ q. omega arith) (omega (arith, G.most, G.pace))
          (omega (arith, G.some)) z
    ]

-- a guest's move, in the window's terms: the ticks since it began rise by one, what the guest had rises by a, and a
-- period that starts is counted
turned :
    {C T p l q h' : ℕ} (h a k s e : ℕ)
    → Moved C T p l q h'
    → l + a ≡ h
    → (p + 1 ≡ T → l ≡ 0)
    → s + h ≡ e + k * C
    → (k' : ℕ) × (k' * T + q ≡ k * T + p + 1) × (s + a + h' ≡ e + k' * C) × (q ≡ 0 → 0 < k')
turned h a k s e (on u v z) la dr had = (k, omega arith, omega arith, λ o. absurd (omega arith))
turned h a k s e (over u v z) la dr had = (suc k, omega arith, omega (arith, dr u), λ o. omega arith)

-- A tick keeps the invariant.
module _ {S : System} (is_bound : ℕ → Bool) {w x p l p' h' : ℕ} (h a i : ℕ) (v v' : Tasks)
    (M : Moved S.capacity S.period p l p' h') (la : l + a ≡ h) (dr : p + 1 ≡ S.period → l ≡ 0)
    (G : Given S i w x p' h')
    (gaps : (j : ℕ) → j < i → gap_for (is_bound j) (S.period - S.capacity) ≤ S.gap j)
    (pos : (j : ℕ) → j < i → 0 < S.every j)
    (K : Clock i S.every v)
    (t : TaskTick i a v v') where
  -- what was asked for up to now is at most the load
  asked_le :
      (n : ℕ → ℕ) (b e d : ℕ)
      → n i ≤ 1
      → e + b ≤ S.period + w
      → d ≤ e + (S.period - S.capacity)
      → ((j : ℕ) → j < i → 0 < n j → n j * S.every j + S.period ≤ b + gap_for (is_bound j) d + v'.wait j)
      → sum_to (λ j. n j * S.run j) (suc i) ≤ load S i w
  unfolding load
  asked_le n b e d one most gap counts =
      omega (
        arith,
        sum_last (λ j. n j * S.run j) i,
        mul-le-mul_right {m = n i} {n = 1} (S.run i) one,
        asked_counts S.run S.every S.gap n i w pos fewer,
      )
    where
      fewer : (j : ℕ) → j < i → n j * S.every j < w + S.gap j + S.every j
      fewer j r =
          elim (dec_lt 0 (n j)) [
            | yes o ↦
                omega (
                  arith,
                  counts j r o,
                  gap_for_grows (is_bound j) (S.period - S.capacity) d e gap,
                  gaps j r,
                  t.waited j (omega arith),
                  K.waits j (omega arith),
                  pos j r,
                )
            | no o ↦
                (let z : n j ≡ 0 = omega arith in
                omega (arith, pos j r, ap (λ (u : ℕ). u * S.every j) z))
          ]

  -- the window goes on
  go_on : 0 < sum_to v'.rest (suc i) → Window S is_bound i w p h v → Window S is_bound i w p' h' v'
  go_on some W = by (turned h a W.k W.s W.e M la dr W.had)
    where
      busy : 0 < sum_to v.rest (suc i)
      busy =
          elim (dec_lt 0 (sum_to v.rest (suc i))) [
            | yes q ↦ q
            | no q ↦ absurd (omega (arith, sum_le v'.rest v.rest (suc i) (λ j r. t.less j (omega arith))))
          ]

      by : (k' : ℕ) × (k' * S.period + p' ≡ W.k * S.period + p + 1) × (W.s + a + h' ≡ W.e + k' * S.capacity)
          × (p' ≡ 0 → 0 < k')
          → Window S is_bound i w p' h' v'
      by (k', el, had, starts) = record {
        k = k';
        e = W.e;
        d = W.d;
        s = W.s + a;
        n = W.n;
        gap = W.gap;
        early = W.early;
        begins = omega (arith, W.begins);
        starts = starts;
        had = had;
        jobs = asks;
        counts = later;
        own = W.own;
        ended = λ r. W.ended (t.last some r);
        aged = λ r.
            let u : 0 < v.rest i = omega (arith, t.less i (omega arith)) in
            omega (arith, W.aged u, t.older u);
        inside =
            elim (dec_lt (W.e + k' * S.period + p') (S.period + w)) [
              | yes q ↦ q
              | no q ↦ absurd (omega (arith, some, asks, all (omega (arith, W.inside)), most))
            ];
      }
        where
          asks : W.s + a + sum_to v'.rest (suc i) ≡ sum_to (λ j. W.n j * S.run j) (suc i)
          asks = omega (arith, W.jobs, t.worked busy)

          later : (j : ℕ) → j < i → 0 < W.n j
              → W.n j * S.every j + S.period ≤ k' * S.period + p' + gap_for (is_bound j) W.d + v'.wait j
          later j r o = omega (arith, W.counts j r o, t.waited j (omega arith))

          most : sum_to (λ j. W.n j * S.run j) (suc i) ≤ load S i w
          most = asked_le W.n (k' * S.period + p') W.e W.d W.own (omega (arith, W.inside)) W.gap later

          all : W.e + k' * S.period + p' ≡ S.period + w → load S i w ≤ W.s + a
          all =
              enough S i w x k' W.e p' h' (W.s + a) G.lies G.cap G.resp W.early
              G.pos G.most G.full G.last had

  -- a tick keeps the window, or starts a new one
  pub window_tick : Window S is_bound i w p h v → Window S is_bound i w p' h' v'
  window_tick W =
      elim (dec_lt 0 (sum_to v'.rest (suc i))) [
        | yes q ↦ go_on q W
        | no q ↦ restart v' G (omega arith)
      ]
