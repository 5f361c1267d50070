-- The loop's invariant: `ok` says whether the places passed are blank.
use Rattle.std.proofs.Common.{◌≡◌}
use Rattle.lists.specs.All.{all_to}
use Rattle.refusals.specs.Rows.{blank_at}
use Rattle.refusals.proofs.ranges.blank_ok.Given as goal

abbrev pub invariant-loop-t : goal.invariant-loop-t
invariant-loop-t l = l.ok ≡ all_to (blank_at l.lent.rest.now l.lent.wait.now l.lent.age.now l.k) l.t
