-- `plan::ranges_ok` meets its contract: each turn gathers one task's test. Assumes nothing.
use mathlib.Core.Path.{◌≡◌}
use Rattle.lists.specs.Places.{nth}
use Rattle.lists.specs.All.{all_to}
use Rattle.plan.specs.Ranges.{task_ok}
use Rattle.plan.proofs.ranges.ranges_ok.Given as goal

abbrev pub invariant-loop-i : goal.invariant-loop-i
invariant-loop-i l =
    l.ok ≡ all_to (λ j. task_ok (nth l.run j) (nth l.every j) (nth l.deadline j)) l.i
