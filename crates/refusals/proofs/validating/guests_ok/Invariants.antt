-- The loop's invariant: `ok` says whether the guests passed go, and the columns hold their numbers.
use Rattle.std.proofs.Common.{◌≡◌}
use Rattle.lists.specs.All.{all_to}
use Rattle.plan.specs.Filled.{ColumnsOf}
use Rattle.refusals.specs.Check.{goes}
use Rattle.refusals.proofs.validating.guests_ok.Given as goal

abbrev pub invariant-loop-k : goal.invariant-loop-k
invariant-loop-k g l = record {
  okay : l.ok
      ≡ all_to (goes (g.P.AsPlan.plan l.plan) l.lent.left.now l.lent.position.now
      l.lent.rest.now l.lent.wait.now l.lent.age.now) l.k;
  columns : ColumnsOf (g.P.AsPlan.plan l.plan).guests l.k l.columns;
}
