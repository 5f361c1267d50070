-- A turn puts the row of one guest, and the rows before it stand.
use mathlib.Core.Path.{refl}
use native.Mathlib.Omega.{arith}
use Rattle.plan.proofs.Order.{plan_in}
use Rattle.statement.proofs.Lent.{rows_none, rows_next}
use Rattle.statement.proofs.columns.deadlines_of.Goals as goal

pub loop-k-init : goal.loop-k-init
loop-k-init c = rows_none _ _ refl

pub bounds-plan-k : goal.bounds-plan-k
bounds-plan-k c = omega (arith, (plan_in _ c.requires).few)

pub put_row-requires : goal.put_row-requires
put_row-requires c =
    let P = plan_in _ c.requires in
    (omega (arith, P.few), ((P.guests _ c.loop-k-test.true).head.few, c.loop-k.invariant.long))

pub loop-k-preserved : goal.loop-k-preserved
loop-k-preserved c =
    let P = plan_in _ c.requires in
    rows_next _ _ (λ j h. (P.guests j (omega arith)).head.few) c.loop-k.invariant c.put_row.ensures
