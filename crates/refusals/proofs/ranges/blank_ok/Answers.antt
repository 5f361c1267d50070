-- At the loop's end all 16 places are passed.
use Rattle.std.proofs.Common.{refl, rules}
use Rattle.lists.proofs.All.{all_end}
use Rattle.refusals.specs.Rows.{row_is_blank}
use Rattle.refusals.proofs.ranges.blank_ok.Goals as goal

pub returns : goal.returns
unfolding row_is_blank
returns c = rw (all_end _ _ 16 c.loop-t.invariant (search rules) (search rules)) refl
