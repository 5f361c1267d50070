-- What a state in its ranges says. Assumes nothing.
use mathlib.Core.Path.{◌≡◌}
use mathlib.Core.Bool.{true}
use Prim.Native.Nat.{ℕ, ◌<◌}
use lib.Dec.{eqb}
use borrow.Author.Tests.{eqb-true}
use Rattle.lists.specs.All.{all_to}
use Rattle.plan.specs.Order.{plan_refusal}
use Rattle.plan.specs.Periodic.{start_refusal}
use Rattle.dispatcher.specs.declared.Dispatcher.{Dispatcher}
use Rattle.dispatcher.specs.Valid.{row_ok, state_ok}
use Rattle.lists.proofs.All.{and_left, and_right, all_at}
use Rattle.plan.proofs.PeriodicLaws.{starts_in_order}

module _ (d : Dispatcher) (e : state_ok d ≡ true) where
  -- The plan of a state in its ranges can be started.
  pub ok_start : (start_refusal d.plan).number ≡ 0
  unfolding state_ok
  ok_start = eqb-true (start_refusal d.plan).number 0 (and_left _ (all_to (row_ok d) 8) e)

  -- The plan of a state in its ranges is in order.
  pub ok_plan : (plan_refusal d.plan).number ≡ 0
  ok_plan = starts_in_order d.plan ok_start

  -- Each row of a state in its ranges is in its own.
  pub ok_row : (k : ℕ) → k < 8 → row_ok d k ≡ true
  unfolding state_ok
  ok_row k h = all_at (row_ok d) 8 k h (and_right (eqb (start_refusal d.plan).number 0) _ e)
