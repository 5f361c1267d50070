-- A warm start: the search for a task may begin where that for the task directly above it in its guest ended. Assumes
-- nothing.
use mathlib.Core.Path.{◌≡◌}
use Prim.Native.Nat.{ℕ, suc, ◌+◌, ◌*◌, ◌≤◌, ◌<◌}
use native.Mathlib.Nat.{mul-le-mul_right}
use native.Mathlib.Numerals.{add-one}
use native.Mathlib.Omega.{arith}
use Rattle.rounding.specs.Asked.{asked}
use Rattle.rounding.specs.Up.{up}
use Rattle.equation.specs.System.{System, load}
use Rattle.equation.specs.Standing.{Stands}
use Rattle.rounding.proofs.Asked.{asked_next}
use Rattle.rounding.proofs.Up.{le_up}
use Rattle.equation.proofs.System.{Regular, load_some}
use Rattle.equation.proofs.Done.{less_done, done_some}

-- Task i of S and the task directly below it, under a guest whose own response is x.
module _ (S : System) (i x : ℕ) (upper : Regular S i x) (lower : Regular S (suc i) x) (some : 0 < S.every i) where
  -- the task below loads every window from 1 on no less
  below_loads : (u : ℕ) → 1 ≤ u → load S i u ≤ load S (suc i) u
  unfolding load
  below_loads u h =
      let one : 1 ≤ up (u + S.gap i) (S.every i) = le_up 1 (u + S.gap i) (S.every i) some (omega arith) in
      let run = mul-le-mul_right (S.run i) one in
      let next : asked S.run S.every S.gap (suc i) u
      ≡ asked S.run S.every S.gap i u + up (u + S.gap i) (S.every i) * S.run i =
      rw add-one at (asked_next S.run S.every S.gap i u) in
      omega arith

  -- a warm start: where the search for a task stands, that for the task below it may begin
  pub stands_below : (w : ℕ) → 1 ≤ w → Stands S i w → Stands S (suc i) w
  stands_below w h t = record {
    reached = t.reached;
    some = t.some;
    loads = omega (arith, t.loads, below_loads w h);
    part = t.part;
    is = t.is;
    rising = t.rising;
    first = λ z d. (
        let late = done_some S (suc i) x lower (load S (suc i) z) z (load_some S (suc i) z lower.runs) d in
        t.first z
        (less_done S i x upper (load S i z) (load S (suc i) z) z (load_some S i z upper.runs) (below_loads z late) d));
  }
