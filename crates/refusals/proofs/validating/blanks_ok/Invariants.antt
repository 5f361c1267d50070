-- The loop's invariant: `ok` says whether the rows passed are blank, those of guests not being looked at.
use Rattle.std.proofs.Common.{◌≡◌}
use Rattle.lists.specs.All.{all_to}
use Rattle.refusals.specs.Check.{past_ok}
use Rattle.refusals.proofs.validating.blanks_ok.Given as goal

abbrev pub invariant-loop-k : goal.invariant-loop-k
invariant-loop-k l =
    l.ok ≡ all_to (past_ok l.n l.lent.left.now l.lent.position.now l.lent.rest.now l.lent.wait.now l.lent.age.now) l.k
