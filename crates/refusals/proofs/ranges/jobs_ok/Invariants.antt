-- The loop's invariant: `ok` says whether the places passed are in their ranges.
use Rattle.std.proofs.Common.{◌≡◌}
use Rattle.lists.specs.All.{all_to}
use Rattle.refusals.specs.Rows.{job_in}
use Rattle.refusals.proofs.ranges.jobs_ok.Given as goal

abbrev pub invariant-loop-t : goal.invariant-loop-t
invariant-loop-t l =
    l.ok ≡ all_to (job_in l.lent.rest.now l.lent.wait.now l.lent.age.now l.g.run l.g.every l.g.charge l.k l.g.tasks) l.t
