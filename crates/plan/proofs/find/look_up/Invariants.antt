-- `plan::look_up` meets its contract: what is left to pass has the guest's place. Assumes nothing.
use Rattle.std.proofs.Common.{◌≡◌, ◌-◌}
use Rattle.lists.specs.Search.{first_from}
use Rattle.plan.specs.Place.{place_of}
use Rattle.plan.proofs.LookUp.{has_id}
use Rattle.plan.proofs.find.look_up.Given as goal

abbrev pub invariant-loop-k : goal.invariant-loop-k
invariant-loop-k g l =
    let p = g.P.AsPlan.plan l.plan in
    first_from (has_id p l.id) (p.count - l.k) l.k ≡ place_of p l.id
