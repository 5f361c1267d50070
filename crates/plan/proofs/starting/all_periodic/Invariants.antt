-- `plan::starting::all_periodic` meets its contract: each turn gathers one guest's test. Assumes nothing.
use Rattle.std.proofs.Common.{◌≡◌, eqb}
use Rattle.lists.specs.All.{all_to}
use Rattle.lists.specs.Places.{nth}
use Rattle.plan.proofs.starting.all_periodic.Given as goal

abbrev pub invariant-loop-k : goal.invariant-loop-k
invariant-loop-k l = l.ok ≡ all_to (λ j. eqb (nth l.deferrable j) 0) l.k
