-- How a solution of the task equation lies in whole periods of the guest; `enough` is the heart. Assumes nothing.
use mathlib.Core.Path.{◌≡◌, ap}
use Prim.Native.Nat.{ℕ, suc, ◌+◌, ◌-◌, ◌*◌, ◌≤◌, ◌<◌}
use native.Mathlib.Nat.{mul-le-mul_right}
use native.Mathlib.Decide.{dec_lt}
use native.Mathlib.Omega.{arith}
use Rattle.equation.specs.System.{System, load, right}
use Rattle.equation.proofs.System.{load_some, Parts, parts, whole}

-- The load of task i as n whole capacities and 1 to C more, l; the window w as n whole periods and v more.
pub record Lies (S : System) (i w : ℕ) : Type 0 where
  pub n : ℕ
  pub l : ℕ
  pub v : ℕ
  pub count : load S i w ≡ n * S.capacity + l
  pub some : 0 < l
  pub fits : l ≤ S.capacity
  pub window : w ≡ n * S.period + v
  pub solves : v ≡ l + S.above v

-- every solution lies so
pub lies : (S : System) (i w : ℕ) → 0 < S.capacity → S.capacity ≤ S.period → 0 < S.run i → w ≡ right S i w
    → Lies S i w
lies S i w pos le some e = go (whole S i w) (parts S i w pos le (load_some S i w some))
  where
    go : (n : ℕ) → Parts S i w n → Lies S i w
    go n P = record {
      n = n;
      l = load S i w - n * S.capacity;
      v = w - n * S.period;
      count = omega (arith, P.more);
      some = omega (arith, P.more);
      fits = omega (arith, P.most);
      window = omega (arith, P.is);
      solves = omega (arith, P.is);
    }

-- The heart: e ticks early, k periods begun and p ticks into the last, together the window and one period; h of the
-- last capacity is left. Then s, all that the guest had, is the whole load.
pub enough :
    (S : System) (i w x k e p h s : ℕ) (P : Lies S i w)
    → S.capacity ≤ S.period
    → x ≤ S.period
    → e ≤ S.capacity
    → p < S.period
    → h ≤ S.capacity
    → h ≤ x - p
    → P.l + h ≤ S.capacity + (P.v - p)
    → s + h ≡ e + k * S.capacity
    → e + k * S.period + p ≡ S.period + w
    → load S i w ≤ s
enough S i w x k e p h s P ct xt ec pt hc full sup had z =
    elim (dec_lt (suc P.n) k) [
      | yes a ↦ omega (arith, mul-le-mul_right {m = suc (suc P.n)} {n = k} S.capacity a, P.count, P.fits)
      | no a ↦
          elim (dec_lt P.n k) [
            | yes b ↦
                (let q : k ≡ suc P.n = omega arith in
                omega (arith, ap (λ (u : ℕ). u * S.capacity) q, ap (λ (u : ℕ). u * S.period) q, P.count, P.window))
            | no b ↦
                elim (dec_lt k P.n) [
                  | yes c ↦ absurd (omega (arith, mul-le-mul_right {m = suc k} {n = P.n} S.period c, P.window))
                  | no c ↦
                      (let q : k ≡ P.n = omega arith in
                      omega (arith, ap (λ (u : ℕ). u * S.capacity) q, ap (λ (u : ℕ). u * S.period) q, P.count, P.window, P.solves))
                ]
          ]
    ]
