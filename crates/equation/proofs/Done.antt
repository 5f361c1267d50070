-- Loads that are done within a window: a solution is a window in which its task's load is done, and where a load is done
-- a smaller one is too. Assumes nothing.
use mathlib.Core.Path.{◌≡◌, ap}
use mathlib.Core.Logic.{◌⊎◌, inl, inr}
use Prim.Native.Nat.{ℕ, ◌-◌, ◌*◌, ◌≤◌, ◌<◌}
use native.Mathlib.Nat.{mul-le-mul_right, eq-or-lt_of_le}
use native.Mathlib.Omega.{arith}
use Rattle.equation.specs.Guest.{guest_side}
use Rattle.equation.specs.System.{System, load, server_periods, right}
use Rattle.equation.specs.Standing.{before, rest, Done}
use Rattle.rounding.proofs.Up.{Blocks, blocks, up_mono}
use Rattle.equation.proofs.System.{Regular, load_some, parts}
use Rattle.equation.proofs.Side.{side_less}

-- a solution is a window in which the task's load is done
pub solution_done : (S : System) (i z : ℕ) → 0 < S.capacity → S.capacity ≤ S.period → 0 < S.run i
    → z ≡ right S i z → Done S (load S i z) z
unfolding guest_side
solution_done S i z some within runs e =
    let p = parts S i z some within (load_some S i z runs) in
    record {
      part = z - before S.capacity S.period (load S i z);
      enough = omega (arith, p.is, p.more);
      ends = omega (arith, p.is, p.more);
    }

module _ (S : System) (i x : ℕ) (s : Regular S i x) where
  -- how a load lies in server periods
  pub lies : (l : ℕ) → 1 ≤ l → Blocks l S.capacity (server_periods l S.capacity - 1)
  lies l h = blocks l S.capacity s.some h

  -- what is left of a load is enough in the guest's response
  pub rest_ends : (l : ℕ) → 1 ≤ l → guest_side S.above (rest S.capacity l) x ≤ x
  unfolding guest_side
  rest_ends l h = omega (arith, s.fits, (lies l h).most)

  -- what holds a load holds a smaller one
  pub less_done : (l m z : ℕ) → 1 ≤ l → l ≤ m → Done S m z → Done S l z
  less_done l m z h le d = go (eq-or-lt_of_le few)
    where
      a : ℕ
      a = server_periods l S.capacity - 1

      b : ℕ
      b = server_periods m S.capacity - 1

      few : a ≤ b
      few = omega (arith, up_mono S.capacity le)

      go : (a ≡ b) ⊎ (a < b) → Done S l z
      go (inl e) =
          let t : a * S.period ≡ b * S.period = ap (λ (k : ℕ). k * S.period) e in
          let c : a * S.capacity ≡ b * S.capacity = ap (λ (k : ℕ). k * S.capacity) e in
          record { part = d.part; enough = side_less S.above d.part (omega arith) d.enough; ends = omega (arith, d.ends) }
      go (inr k) =
          record {
            part = x;
            enough = rest_ends l h;
            ends = omega (arith, d.ends, s.ends, mul-le-mul_right S.period k);
          }

  -- no load is done in no time
  pub done_some : (l z : ℕ) → 1 ≤ l → Done S l z → 1 ≤ z
  unfolding guest_side
  done_some l z h d = omega (arith, d.enough, d.ends, (lies l h).more)
