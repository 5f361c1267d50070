-- A turn tests one line more.
use mathlib.Core.Path.{◌≡◌}
use Rattle.statement.specs.Lines.{line_ok}
use Rattle.lists.specs.All.{all_to}
use Rattle.statement.proofs.ranges.lines_ok.Given as goal

abbrev pub invariant-loop-k : goal.invariant-loop-k
invariant-loop-k l = l.ok ≡ all_to (line_ok l.s) l.k
