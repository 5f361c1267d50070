-- `amendment::pairs::check_known` meets its contract: what is left has the same first refusal. Assumes nothing.
use Rattle.std.proofs.Common.{◌≡◌, ◌-◌}
use Rattle.plan.specs.First.{first_refused}
use Rattle.amendment.specs.Pair.{foreign_number}
use Rattle.amendment.proofs.pairs.check_known.Given as goal

abbrev pub invariant-loop-k : goal.invariant-loop-k
invariant-loop-k l =
    first_refused (foreign_number l.plan l.sheet) (l.n - l.k) l.k ≡ first_refused (foreign_number l.plan l.sheet) l.n 0
