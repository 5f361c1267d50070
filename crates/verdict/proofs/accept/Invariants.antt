-- `verdict::accept` meets its promise: refused by the records' order, else guests that are accepted up to one that is
-- not. Assumes nothing.
use mathlib.Core.Path.{◌≡◌}
use mathlib.Core.Bool.{true}
use Rattle.lists.specs.All.{all_to}
use Rattle.plan.specs.Records.{guest_at}
use Rattle.response.specs.Columns.{above_of, accepted_under}
use Rattle.verdict.proofs.accept.Given as goal

abbrev pub invariant-loop-k : goal.invariant-loop-k
invariant-loop-k g l =
    let p = g.P.AsPlan.plan l.plan in
    all_to (λ i. accepted_under (above_of l.servers i) (guest_at p.guests i)) l.k ≡ true
