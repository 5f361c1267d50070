-- The search for a task's window: from load to window and back, until the load stays. A window in which a load is done is
-- no sooner for a larger load, so that no turn passes a solution. Assumes nothing.
use Rattle.std.specs.Prelude.{Some, None}
use mathlib.Core.Path.{◌≡◌, refl, ap}
use mathlib.Core.Logic.{◌⊎◌, inl, inr}
use Prim.Native.Nat.{ℕ, suc, ◌+◌, ◌-◌, ◌*◌, ◌≤◌, ◌<◌}
use native.Mathlib.Decide.{dec_lt}
use native.Mathlib.Nat.{mul-le-mul_right, eq-or-lt_of_le}
use native.Mathlib.Omega.{arith}
use Rattle.equation.specs.Guest.{guest_side, guest_under}
use Rattle.equation.specs.Solve.{solve}
use Rattle.equation.specs.System.{System, load, server_periods, right}
use Rattle.equation.specs.Standing.{Rising, before, rest, Done, Stands}
use Rattle.rounding.proofs.Up.{up_le, up_mono}
use Rattle.equation.proofs.Solve.{Under, Solved, solve_at, solve_none, solve_answers}
use Rattle.equation.proofs.System.{Regular, load_grows, load_some, Parts, parts, whole}
use Rattle.equation.proofs.Side.{side_more, side_start, side_climbs}
use Rattle.equation.proofs.Done.{solution_done, lies, rest_ends, less_done, done_some}

module _ (S : System) (i x : ℕ) (s : Regular S i x) where
  -- the right side at each window, taken apart
  parts_of : (w : ℕ) → Parts S i w (whole S i w)
  parts_of w = parts S i w s.some s.within (load_some S i w s.runs)

  -- a window at which the search stands is no later than one in which as much is done
  stands_first : (w z : ℕ) (t : Stands S i w) → Done S t.reached z → w ≤ z
  stands_first w z t d = omega (arith, t.is, d.ends, t.rising.under d.part d.enough)

  -- no solution is before the window at which the search stands
  pub stands_under : (w : ℕ) → Stands S i w → Under (right S i) w
  stands_under w t z h e = t.first z (solution_done S i z s.some s.within s.runs e)

  -- the search may begin at 1
  pub stands_fresh : Stands S i 1
  stands_fresh =
      let b = lies S i x s 1 (omega arith) in
      let m : server_periods 1 S.capacity - 1 ≡ 0 = omega (arith, up_le 1 S.capacity) in
      record {
        reached = 1;
        some = omega arith;
        loads = load_some S i 1 s.runs;
        part = 1;
        is = rw m (omega arith);
        rising = side_more S.above 1 (omega (arith, b.more, m)) (side_start S.above 1);
        first = λ z d. done_some S i x s (load S i z) z (load_some S i z s.runs) d;
      }

  -- The search stands at w, where the task's load is l.
  module _ (w l : ℕ) (t : Stands S i w) (e : l ≡ load S i w) where
    some : 1 ≤ l
    some = omega (arith, e, load_some S i w s.runs)

    -- past the start of its last server period the load may climb on from w
    pub stands_on : before S.capacity S.period l < w
        → Rising (guest_side S.above (rest S.capacity l)) (w - before S.capacity S.period l)
    stands_on h =
        let le : t.reached ≤ l = omega (arith, e, t.loads) in
        let short : t.part ≤ x = t.rising.under x (rest_ends S i x s t.reached t.some) in
        go le short (eq-or-lt_of_le (few le))
      where
        a : ℕ
        a = server_periods t.reached S.capacity - 1

        b : ℕ
        b = server_periods l S.capacity - 1

        few : t.reached ≤ l → a ≤ b
        few le = omega (arith, up_mono S.capacity le)

        go : t.reached ≤ l → t.part ≤ x → (a ≡ b) ⊎ (a < b)
            → Rising (guest_side S.above (rest S.capacity l)) (w - before S.capacity S.period l)
        go le short (inl q) =
            let p : a * S.period ≡ b * S.period = ap (λ (k : ℕ). k * S.period) q in
            let c : a * S.capacity ≡ b * S.capacity = ap (λ (k : ℕ). k * S.capacity) q in
            let v : w - before S.capacity S.period l ≡ t.part = omega (arith, t.is) in
            rw v (side_more S.above t.part (omega arith) t.rising)
        go le short (inr k) = absurd (omega (arith, t.is, s.ends, mul-le-mul_right S.period k))

    -- a window in which the task's load is done is one in which this load is
    pub done_too : (z : ℕ) → Done S (load S i z) z → Done S l z
    done_too z d =
        less_done S i x s l (load S i z) z some (omega (arith, e, load_grows S i (t.first z d))) d

    -- where no window of at most `room` ticks is one that the load ends with, there is no solution
    pub stands_none : (room : ℕ)
        → guest_under S.above (rest S.capacity l) (room - before S.capacity S.period l) ≡ None
        → None ≡ solve (right S i) room
    unfolding guest_under
    stands_none room none =
        let f = guest_side S.above (rest S.capacity l) in
        let a = rw none at (solve_answers f (room - before S.capacity S.period l)) in
        solve_none (right S i) room (suc room) (omega arith) (λ z h q.
        elim (dec_lt room z) [
          | yes k ↦ k
          | no k ↦
              let d = done_too z (solution_done S i z s.some s.within s.runs q) in
              let y = side_climbs S.above (rest S.capacity l) d.part s.grows d.enough in
              absurd (a y.0 (omega (arith, y.1, (lies S i x s l some).more)) (omega (arith, y.2, d.ends)) y.3)
        ])

    module _ (v most : ℕ) (found : guest_under S.above (rest S.capacity l) most ≡ Some v) where
      -- what the load ends with is the least in its last server period
      pub ends : Solved (guest_side S.above (rest S.capacity l)) most v
      unfolding guest_under
      ends = rw found at (solve_answers (guest_side S.above (rest S.capacity l)) most)

      -- so no part that is enough is less
      rising : Rising (guest_side S.above (rest S.capacity l)) v
      rising = record {
        rises = omega (arith, ends.sol);
        under = λ z h. (
            let y = side_climbs S.above (rest S.capacity l) z s.grows h in
            let least : v ≤ y.0 = ends.under y.0 (omega (arith, y.1, (lies S i x s l some).more)) y.3 in
            omega (arith, y.2));
      }

      -- the window that the load ends with is no sooner than w
      pub turn_later : w ≤ before S.capacity S.period l + v
      turn_later =
          stands_first w (before S.capacity S.period l + v) t
          (less_done S i x s t.reached l _ t.some (omega (arith, e, t.loads))
          record { part = v; enough = omega (arith, ends.sol); ends = omega arith })

      -- the search stands there
      pub stands_turn : Stands S i (before S.capacity S.period l + v)
      stands_turn = record {
        reached = l;
        some = some;
        loads = omega (arith, e, load_grows S i turn_later);
        part = v;
        is = refl;
        rising = rising;
        first = λ z d. (let y = done_too z d in omega (arith, y.ends, rising.under y.part y.enough));
      }

      -- where the load stays that window is a solution
      pub stands_sol : load S i (before S.capacity S.period l + v) ≤ l
          → before S.capacity S.period l + v ≡ right S i (before S.capacity S.period l + v)
      unfolding guest_side
      stands_sol stays =
          let y = before S.capacity S.period l + v in
          let same : load S i y ≡ l = omega (arith, e, load_grows S i turn_later) in
          let is = rw same at (parts_of y).is in
          let part : y - before S.capacity S.period l ≡ v = omega arith in
          omega (arith, is, ap S.above part, ends.sol)

      -- the least one
      pub stands_found : (room : ℕ) → before S.capacity S.period l + v ≤ room
          → load S i (before S.capacity S.period l + v) ≤ l
          → Some (before S.capacity S.period l + v) ≡ solve (right S i) room
      stands_found room high stays =
          let y = before S.capacity S.period l + v in
          solve_at (right S i) room y (omega (arith, ends.low)) high (stands_sol stays) (stands_under y stands_turn)
