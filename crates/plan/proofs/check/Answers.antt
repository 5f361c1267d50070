-- `plan::check` meets its promise: the count first; then the guests in order, of which those that are left have the
-- same first refusal. Assumes nothing.
use Rattle.std.proofs.Common.{◌≡◌, ◌<◌, ◌-◌, arith, sym, ap, ◌∙◌}
use Rattle.lists.proofs.Refusals.{ok_number, err_number}
use Rattle.plan.specs.Ranges.{most_guests}
use Rattle.plan.proofs.First.{first_here, first_next, first_end, ok_unless, err_unless}
use Rattle.plan.proofs.RangesLaws.{within_says}
use Rattle.plan.proofs.Order.{number_is, count_out, counted}
use Rattle.plan.proofs.check.Goals as goal

pub returns-then-not-count_ok : goal.returns-then-not-count_ok
returns-then-not-count_ok g c =
    let p = g.P.AsPlan.plan c.args.plan.now in
    err_unless _ _ (count_out p (rw c.count-count.ensures at (sym c.count_ok.ensures ∙ c.if-not-count_ok.true))) (omega arith)

pub loop-k-init : goal.loop-k-init
loop-k-init g c =
    let p = g.P.AsPlan.plan c.args.plan.now in
    let w = within_says 1 most_guests p.count (rw c.count-count.ensures at (sym c.count_ok.ensures ∙ c.if-not-count_ok.false)) in
    let all : p.count - 0 ≡ p.count = omega arith in
    record { few = w.1; left = rw all (counted p w.0 w.1) }

pub returns-in-Err : goal.returns-in-Err
returns-in-Err g c =
    let p = g.P.AsPlan.plan c.args.plan.now in
    let below : c.loop-k.k < p.count = omega (arith, c.count-count.ensures) in
    let e = err_number _ _ (sym c.in-Err.is ∙ c.guest_passes.ensures) in
    let number = number_is p.guests _ c.loop-k.k (omega arith) c.columns_of.ensures.ids c.guest.ensures c.new_id-new.ensures in
    err_unless _ _ (first_here _ p.count _ _ below (e.0 ∙ number) (omega (arith, e)) ∙ c.loop-k.invariant.left) (omega (arith, e))

pub loop-k-preserved : goal.loop-k-preserved
loop-k-preserved g c =
    let p = g.P.AsPlan.plan c.args.plan.now in
    let below : c.loop-k.k < p.count = omega (arith, c.count-count.ensures) in
    let e = ok_number _ (sym c.in_default.is ∙ c.guest_passes.ensures) in
    let number = number_is p.guests _ c.loop-k.k (omega arith) c.columns_of.ensures.ids c.guest.ensures c.new_id-new.ensures in
    record { few = c.loop-k.invariant.few; left = first_next _ p.count _ _ below (sym e.0 ∙ number) (omega arith) ∙ c.loop-k.invariant.left }

pub returns : goal.returns
returns g c =
    let p = g.P.AsPlan.plan c.args.plan.now in
    let none = ap (λ r. r.number) (first_end _ p.count _ (omega (arith, c.count-count.ensures)) ∙ c.loop-k.invariant.left) in
    ok_unless _ _ (omega arith)
