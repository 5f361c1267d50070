-- `plan::starts_ok` meets its contract: without marks no task is bound, else each turn gathers one task's test. Assumes
-- nothing.
use mathlib.Core.Path.{◌≡◌}
use Rattle.lists.specs.Places.{nth}
use Rattle.lists.specs.All.{all_to}
use Rattle.plan.specs.Marks.{marked}
use Rattle.plan.specs.Ranges.{start_ok}
use Rattle.plan.proofs.ranges.starts_ok.Given as goal

abbrev pub invariant-loop-i : goal.invariant-loop-i
invariant-loop-i l =
    l.ok ≡ all_to (λ j. start_ok (marked l.marks j) l.period (nth l.every j)) l.i
