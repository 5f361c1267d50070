-- A turn tests one line more.
use mathlib.Core.Path.{sym}
use native.Mathlib.Omega.{arith}
use borrow.Author.Rules.{rules}
use Rattle.statement.specs.Lines.{most_lines, line_ok}
use Rattle.lists.proofs.All.{all_none, all_turn, all_end}
use Rattle.statement.proofs.ranges.lines_ok.Goals as goal

pub loop-k-init : goal.loop-k-init
loop-k-init c = sym (all_none _)

pub loop-k-preserved : goal.loop-k-preserved
unfolding line_ok
loop-k-preserved c =
    let l = c.loop-k in
    all_turn (line_ok c.args.s.now) l.k l.ok _ l.invariant (search rules)

pub returns : goal.returns
returns c = let l = c.loop-k in all_end (line_ok _) l.k most_lines l.invariant (omega arith) (omega arith)
