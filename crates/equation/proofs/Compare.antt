-- One comparison of two systems: what is done within a window in the first is done within it in the second, so that the
-- second has a solution no later than the first's. Assumes nothing.
use mathlib.Core.Path.{◌≡◌, ap}
use mathlib.Core.Logic.{◌⊎◌, inl, inr}
use Prim.Native.Nat.{ℕ, ◌-◌, ◌*◌, ◌≤◌, ◌<◌}
use native.Mathlib.Nat.{mul-le-mul_left, mul-le-mul_right, eq-or-lt_of_le}
use native.Mathlib.Omega.{arith}
use Rattle.equation.specs.Guest.{guest_side}
use Rattle.equation.specs.System.{System, server_periods}
use Rattle.equation.specs.Standing.{Done}
use Rattle.rounding.proofs.Up.{up_least, up_holds}
use Rattle.equation.proofs.System.{Regular}
use Rattle.equation.proofs.Done.{rest_ends}

-- The second has no less capacity in the same period, under guests that take no more.
pub record Easier (S S' : System) : Type 0 where
  pub period : S'.period ≡ S.period
  pub capacity : S.capacity ≤ S'.capacity
  pub above : (v : ℕ) → S'.above v ≤ S.above v

module _ (S S' : System) (i x : ℕ) (some : 0 < S.capacity) (s : Regular S' i x) (e : Easier S S') where
  -- a load that is no more takes no more server periods
  fewer : (l m : ℕ) → m ≤ l → server_periods m S'.capacity ≤ server_periods l S.capacity
  fewer l m h =
      let n = server_periods l S.capacity in
      let held : l ≤ n * S.capacity = up_holds l S.capacity some in
      let more : n * S.capacity ≤ n * S'.capacity = mul-le-mul_left n e.capacity in
      up_least m S'.capacity n s.some (omega arith)

  -- where a load is done in the first, one that is no more is done in the second
  pub easier_done : (l m z : ℕ) → 1 ≤ m → m ≤ l → Done S l z → Done S' m z
  unfolding guest_side
  easier_done l m z low h d = go (eq-or-lt_of_le few)
    where
      a : ℕ
      a = server_periods m S'.capacity - 1

      b : ℕ
      b = server_periods l S.capacity - 1

      few : a ≤ b
      few = omega (arith, fewer l m h)

      period : (k : ℕ) → k * S'.period ≡ k * S.period
      period k = ap (λ (t : ℕ). k * t) e.period

      go : (a ≡ b) ⊎ (a < b) → Done S' m z
      go (inl q) =
          let t : a * S.period ≡ b * S.period = ap (λ (k : ℕ). k * S.period) q in
          let c : a * S'.capacity ≡ b * S'.capacity = ap (λ (k : ℕ). k * S'.capacity) q in
          let more : b * S.capacity ≤ b * S'.capacity = mul-le-mul_left b e.capacity in
          record {
            part = d.part;
            enough = omega (arith, d.enough, e.above d.part);
            ends = omega (arith, d.ends, period a);
          }
      go (inr k) =
          record {
            part = x;
            enough = rest_ends S' i x s m low;
            ends = omega (arith, d.ends, s.ends, e.period, period a, mul-le-mul_right S.period k);
          }
