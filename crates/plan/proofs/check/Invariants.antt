-- `plan::check` meets its promise: the count first; then the guests in order, of which those that are left have the
-- same first refusal. Assumes nothing.
use Rattle.std.proofs.Common.{◌≡◌, ◌-◌, ◌≤◌}
use Rattle.plan.specs.Ranges.{most_guests}
use Rattle.plan.specs.First.{first_refused}
use Rattle.plan.specs.Order.{guest_number, plan_refusal}
use Rattle.plan.proofs.check.Given as goal

abbrev pub invariant-loop-k : goal.invariant-loop-k
invariant-loop-k g l =
    let p = g.P.AsPlan.plan l.plan in record {
      few : p.count ≤ most_guests;
      left : first_refused (guest_number p.guests) (p.count - l.k) l.k ≡ plan_refusal p;
    }
