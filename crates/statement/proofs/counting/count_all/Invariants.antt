-- A turn counts one entry more.
use mathlib.Core.Path.{◌≡◌}
use Rattle.statement.specs.Counting.{entries_counted}
use Rattle.statement.proofs.counting.count_all.Given as goal

abbrev pub invariant-loop-i : goal.invariant-loop-i
invariant-loop-i l = l.running ≡ entries_counted l.by.plan.now l.b l.i l.initial.running
