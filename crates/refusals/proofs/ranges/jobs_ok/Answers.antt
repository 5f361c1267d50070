-- At the loop's end all 16 places are passed.
use Rattle.std.proofs.Common.{rules}
use Rattle.lists.proofs.All.{all_end}
use Rattle.refusals.proofs.ranges.jobs_ok.Goals as goal

pub returns : goal.returns
returns c = all_end _ _ _ c.loop-t.invariant (search rules) (search rules)
