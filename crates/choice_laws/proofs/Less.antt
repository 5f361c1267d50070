-- A guest that is accepted under guests stays so under guests that take no more from any window. Assumes nothing.
use Rattle.std.specs.Prelude.{Option, Some, None, is_some}
use mathlib.Core.Path.{◌≡◌, refl, ap}
use mathlib.Core.Bool.{true, false≢true}
use Prim.Native.Nat.{ℕ, ◌≤◌, ◌<◌}
use native.Mathlib.Nat.{le_refl}
use native.Mathlib.Omega.{arith}
use Rattle.equation.specs.Guest.{guest_side, guest_under}
use Rattle.equation.specs.System.{System, task_under}
use Rattle.plan.specs.Records.{deadline_of, run_of}
use Rattle.plan.specs.declared.Guest.{Guest}
use Rattle.response.specs.Columns.{met_under, accepted_in, accepted_under}
use Rattle.response.specs.Task.{system_of}
use Rattle.lists.proofs.All.{and_left, and_right, and_true, all_at, all_by}
use Rattle.equation.proofs.Respond.{Roomier, respond_sooner}
use Rattle.equation.proofs.Rise.{Grows, rise_to}
use Rattle.equation.proofs.Solve.{Solved, solve_answers, solve_by}
use Rattle.equation.proofs.System.{Regular}
use Rattle.plan.proofs.Charge.{charged_least}
use Rattle.plan.proofs.RangesLaws.{GuestIn}

-- what is found is found at a number
found_at : (f : Option ℕ) → is_some f ≡ true → (x : ℕ) × (f ≡ Some x)
found_at None e = absurd (false≢true e)
found_at (Some x) e = (x, refl)

module _ (above above' : ℕ → ℕ) (grows : Grows above') (less : (v : ℕ) → above' v ≤ above v) (g : Guest) (G : GuestIn g) where
  -- the guest before and after, seen from its tasks
  abbrev S : System
  S = system_of above g

  abbrev S' : System
  S' = system_of above' g

  -- the number that solved its equation is enough after
  enough : (x : ℕ) → Solved (guest_side above g.capacity) g.period x → guest_side above' g.capacity x ≤ x
  unfolding guest_side
  enough x o = omega (arith, o.sol, less x)

  -- it is fitted after
  still_fits : (x : ℕ) → Solved (guest_side above g.capacity) g.period x → is_some (guest_under above' g.capacity g.period) ≡ true
  unfolding guest_under guest_side
  still_fits x o =
      let (y, low, high, sol, rest) = rise_to (guest_side above' g.capacity) (λ a b l. omega (arith, grows a b l)) x
      (enough x o) g.capacity record { rises = omega arith; under = λ z l. omega arith } in
      ap is_some (solve_by (guest_side above' g.capacity) g.period y (omega (arith, G.head.some)) (omega (arith, o.high)) sol).1

  -- its tasks have the same runs, periods and gaps, and no less room
  roomier : (i : ℕ) → Roomier S S' i
  roomier i = record {
    period = refl;
    capacity = le_refl g.capacity;
    above = less;
    run = refl;
    every = refl;
    gap = λ j l. omega arith;
  }

  -- the laws of a task's equation serve it with the old response of the guest
  regular : (x : ℕ) → Solved (guest_side above g.capacity) g.period x → (i : ℕ) → i < g.tasks → Regular S' i x
  regular x o i l = record {
    some = G.head.some;
    within = G.head.fits;
    grows = grows;
    runs = omega (arith, (G.tasks i l).runs, charged_least (run_of g i) g.charge);
    fits = enough x o;
    ends = o.high;
  }

  -- a task that was met is met
  still_met : (x : ℕ) → Solved (guest_side above g.capacity) g.period x → (i : ℕ) → i < g.tasks
      → is_some (task_under S i (deadline_of g i)) ≡ true → is_some (task_under S' i (deadline_of g i)) ≡ true
  still_met x o i l e =
      let (r, q) = found_at (task_under S i (deadline_of g i)) e in
      ap is_some (respond_sooner S S' i x G.head.some (regular x o i l) (roomier i) (deadline_of g i) r q).1

  -- so it is accepted
  pub accepted_less : accepted_under above g ≡ true → accepted_under above' g ≡ true
  unfolding accepted_in met_under guest_under
  accepted_less e =
      let fits = and_left (is_some (guest_under above g.capacity g.period)) _ e in
      let (x, q) = found_at (guest_under above g.capacity g.period) fits in
      let o : Solved (guest_side above g.capacity) g.period x =
      rw q at (solve_answers (guest_side above g.capacity) g.period) in
      let met = and_right (is_some (guest_under above g.capacity g.period)) _ e in
      and_true (still_fits x o)
      (all_by _ g.tasks
      (λ i l. still_met x o i l (all_at (λ j. is_some (task_under S j (deadline_of g j))) g.tasks i l met)))
