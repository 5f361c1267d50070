-- The guest's recurrence x := C + above x climbs to the least solution, since its right side grows. Assumes nothing.
use Rattle.std.specs.Prelude.{Some, None}
use mathlib.Core.Path.{◌≡◌}
use Prim.Native.Nat.{ℕ, ◌+◌, ◌≤◌, ◌<◌}
use native.Mathlib.Omega.{arith}
use Rattle.lists.specs.Places.{nth}
use Rattle.rounding.specs.Asked.{asked}
use Rattle.equation.specs.Guest.{guest_side, guest_under}
use Rattle.equation.specs.Standing.{Rising}
use Rattle.plan.specs.Ranges.{longest}
use Rattle.response.specs.declared.servers.Servers.{Servers}
use Rattle.response.specs.Columns.{above_of, guests_take}
use Rattle.rounding.proofs.Asked.{asked_mono}
use Rattle.equation.proofs.Solve.{solve_at, solve_none, Solved, solve_answers}
use Rattle.equation.proofs.Rise.{Grows, rise_turn, rise_under}

-- what the guests above take grows with the window
pub take_grows : (s : Servers) (n : ℕ) → Grows (above_of s n)
unfolding guests_take
take_grows s n a b h = asked_mono (nth s.capacities) (nth s.periods) (nth s.jitters) n h

-- what the kept quotients of the guests above ask is what those take
pub take_is : (s : Servers) (n v sum : ℕ) → sum ≡ asked (nth s.capacities) (nth s.periods) (nth s.jitters) n v
    → sum ≡ above_of s n v
unfolding guests_take
take_is s n v sum e = e

-- no number that the recurrence climbs through is past a solution
pub from_under : (above : ℕ → ℕ) (capacity most x : ℕ) → Rising (guest_side above capacity) x → most < x
    → None ≡ guest_under above capacity most
unfolding guest_under
from_under above capacity most x r h = solve_none (guest_side above capacity) most x h (rise_under _ x r)

-- The loop's invariant, with the facts that every turn uses.
pub record GuestInv (above : ℕ → ℕ) (capacity most x : ℕ) : Type 0 where
  pub grows : Grows above
  pub short : most ≤ longest
  pub low : 1 ≤ x
  pub high : x ≤ most
  pub rising : Rising (guest_side above capacity) x

-- Here y is the right side.
module _ {above : ℕ → ℕ} {capacity most x y : ℕ} (i : GuestInv above capacity most x) (e : y ≡ capacity + above x) where
  -- it climbs on
  turned : Rising (guest_side above capacity) (guest_side above capacity x)
  unfolding guest_side
  turned = rise_turn (guest_side above capacity) (λ a b h. omega (arith, i.grows a b h)) x i.rising

  -- a turn keeps the invariant
  pub guest_turn : x < y → y ≤ most → GuestInv above capacity most y
  guest_turn l h =
      let q : y ≡ guest_side above capacity x = unfold guest_side in e in
      record { grows = i.grows; short = i.short; low = omega arith; high = h; rising = rw q turned }

  -- the loop's end at a solution
  pub guest_found : y ≤ x → Some x ≡ guest_under above capacity most
  unfolding guest_under guest_side
  guest_found h =
      solve_at (guest_side above capacity) most x i.low i.high (omega (arith, i.rising.rises))
      (rise_under (guest_side above capacity) x i.rising)

  -- the loop's end past the most
  pub guest_none : most < y → None ≡ guest_under above capacity most
  unfolding guest_under guest_side
  guest_none h =
      solve_none (guest_side above capacity) most (guest_side above capacity x) (omega arith)
      (rise_under (guest_side above capacity) (guest_side above capacity x) turned)

-- what the response of a fitted guest says
pub response_says : (above : ℕ → ℕ) (capacity period x : ℕ) → guest_under above capacity period ≡ Some x
    → Solved (guest_side above capacity) period x
unfolding guest_under
response_says above capacity period x e = rw e at (solve_answers (guest_side above capacity) period)
