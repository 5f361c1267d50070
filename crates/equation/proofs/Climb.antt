-- Within each window in which a task's load is done the search climbs to a solution. Assumes nothing.
use Rattle.std.specs.Prelude.{Some}
use mathlib.Core.Path.{◌≡◌, refl}
use mathlib.Core.Logic.{⊎_elim}
use Prim.Native.Nat.{ℕ, zero, suc, ◌+◌, ◌-◌, ◌≤◌}
use native.Mathlib.Nat.{eq-or-lt_of_le}
use native.Mathlib.Omega.{arith}
use Rattle.equation.specs.Guest.{guest_side, guest_under}
use Rattle.equation.specs.System.{System, load, right}
use Rattle.equation.specs.Standing.{before, rest, Done, Stands}
use Rattle.equation.proofs.Solve.{solve_by}
use Rattle.equation.proofs.System.{Regular, load_grows, load_some}
use Rattle.equation.proofs.Side.{side_climbs}
use Rattle.equation.proofs.Done.{lies}
use Rattle.equation.proofs.Standing.{stands_fresh, done_too, ends, turn_later, stands_turn, stands_sol}

module _ (S : System) (i x : ℕ) (s : Regular S i x) where
  -- A turn within a window in which the task's load is done.
  record Turned (w z y : ℕ) : Type 0 where
    stands : Stands S i y
    low : 1 ≤ y
    high : y ≤ z
    more : load S i w ≤ load S i y
    sol : load S i y ≤ load S i w → y ≡ right S i y

  -- there is one
  turned : (w z : ℕ) → Stands S i w → Done S (load S i z) z → (y : ℕ) × Turned w z y
  unfolding guest_under
  turned w z t d =
      let l = load S i w in
      let here = done_too S i x s w l t refl z d in
      let f = guest_side S.above (rest S.capacity l) in
      let room = z - before S.capacity S.period l in
      let y = side_climbs S.above (rest S.capacity l) here.part s.grows here.enough in
      let low = (lies S i x s l (load_some S i w s.runs)).more in
      let v = solve_by f room y.0 (omega (arith, y.1)) (omega (arith, y.2, here.ends)) y.3 in
      let found : guest_under S.above (rest S.capacity l) room ≡ Some v.0 = v.1 in
      let least = ends S i x s w l t refl v.0 room found in (
        before S.capacity S.period l + v.0,
        record {
          stands = stands_turn S i x s w l t refl v.0 room found;
          low = omega (arith, least.low);
          high = omega (arith, v.2, y.2, here.ends);
          more = load_grows S i (turn_later S i x s w l t refl v.0 room found);
          sol = stands_sol S i x s w l t refl v.0 room found;
        },
      )

  -- the search goes on to a solution, in at most d turns
  climb : (z : ℕ) → Done S (load S i z) z → (d w : ℕ) → Stands S i w → load S i z ≤ load S i w + d
      → (y : ℕ) × (1 ≤ y) × (y ≤ z) × (y ≡ right S i y)
  climb z d zero w t f =
      let y = turned w z t d in
      let o = y.1 in
      (y.0, o.low, o.high, o.sol (omega (arith, load_grows S i o.high)))
  climb z d (suc n) w t f =
      let y = turned w z t d in
      let o = y.1 in
      ⊎_elim (λ e. (y.0, o.low, o.high, o.sol (omega arith)))
      (λ l. climb z d n y.0 o.stands (omega arith))
      (eq-or-lt_of_le o.more)

  -- within each window in which the task's load is done there is a solution
  pub done_solution : (z : ℕ) → Done S (load S i z) z → (y : ℕ) × (1 ≤ y) × (y ≤ z) × (y ≡ right S i y)
  done_solution z d = climb z d (load S i z) 1 (stands_fresh S i x s) (omega arith)
