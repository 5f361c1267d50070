-- One tick of the state, as the guest part of the windows sees it. Assumes nothing.
use mathlib.Core.Path.{◌≡◌, refl, sym}
use mathlib.Core.Bool.{Bool, true, false}
use Prim.Native.Nat.{ℕ, ◌+◌, ◌≤◌, ◌<◌}
use native.Mathlib.Omega.{arith}
use lib.Dec.{ltb, eqb}
use lib.ListN.{length}
use borrow.Author.Tests.{ltb-true, ltb-false, ne_eqb}
use Rattle.dispatcher.specs.declared.Dispatcher.{Dispatcher}
use Rattle.dispatcher.specs.Tick.{refilled, holder, next}
use Rattle.windows.specs.Served.{ServedFirst}
use Rattle.windows.specs.GuestTick.{Moved, GuestTick}
use Rattle.lists.specs.Choice.{pick}
use Rattle.windows.specs.GuestTick.Moved.{on, over}
use Rattle.lists.proofs.Places.{up_to_length}
use Rattle.windows.proofs.Served.{served_as}
use Rattle.dispatcher_laws.proofs.Seen.{cap_of, per_of, pos_at, left_at, held_at, Shaped}
use Rattle.dispatcher_laws.proofs.Served.{first_served}
use Rattle.dispatcher_laws.proofs.Tick.{left_hit, left_miss, refilled_at, position_at}

-- Refilling keeps the number of places.
pub refilled_long : (d : Dispatcher) → length (refilled d) ≡ length d.left
unfolding refilled
refilled_long d = up_to_length _ d.plan.count d.left

-- A position's move is one of the two that the guest part knows: on, or over to the next period.
moved_by :
    (c t p l : ℕ) (b : Bool)
    → ltb (p + 1) t ≡ b
    → p < t
    → Moved c t p l (pick b (p + 1) 0) (pick (eqb (pick b (p + 1) 0) 0) c l)
moved_by c t p l true e h = on (ltb-true _ _ e) refl (rw (ne_eqb (p + 1) 0 (λ z. omega arith)) refl)
moved_by c t p l false e h = over (omega (arith, ltb-false (p + 1) t e)) refl refl

-- The same holds of a position that is known by its equation.
pub moved_seen :
    (c t p l q : ℕ)
    → p < t
    → q ≡ pick (ltb (p + 1) t) (p + 1) 0
    → Moved c t p l q (pick (eqb q 0) c l)
moved_seen c t p l q lt e = rw e (moved_by c t p l (ltb (p + 1) t) refl lt)

-- The tick of the guests up to g.
module _ (d : Dispatcher) (H : Shaped d) (g : ℕ) (in_plan : g < d.plan.count) where
  -- The first guest that holds capacity has the tick.
  guest_served : ServedFirst g (holder d) (held_at d) (left_at (next d))
  unfolding holder
  guest_served =
      served_as (λ j l. sym (refilled_at d H j (omega arith)))
      (first_served (refilled d) (next d).left (λ j. j) d.plan.count (holder d) g in_plan refl (left_hit d) (left_miss d)
      (λ j l. omega (arith, refilled_long d, H.left_long, H.few)) (λ j k e. e))

  -- Each guest up to g moves on.
  pub guest_moved : (j : ℕ) → j ≤ g → Moved (cap_of d.plan j) (per_of d.plan j) (pos_at d j) (left_at (next d) j) (pos_at (next d) j) (held_at (next d) j)
  unfolding next
  guest_moved j l =
      moved_seen (cap_of d.plan j) (per_of d.plan j) (pos_at d j) (left_at (next d) j) (pos_at (next d) j) (H.places j (omega arith))
      (position_at d H j (omega arith))

  -- The tick of the guests up to g is one of the guest part's ticks.
  pub guest_tick : GuestTick (cap_of d.plan) (per_of d.plan) g (holder d) (held_at d) (pos_at d) (left_at (next d)) (held_at (next d)) (pos_at (next d))
  guest_tick = record { served = guest_served; moved = guest_moved }
