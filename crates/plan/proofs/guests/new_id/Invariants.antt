-- `plan::new_id` meets its contract: each turn gathers one earlier id's test. Assumes nothing.
use Rattle.std.proofs.Common.{◌≡◌, eqb, not}
use Rattle.lists.specs.Places.{nth}
use Rattle.lists.specs.All.{all_to}
use Rattle.plan.proofs.guests.new_id.Given as goal

abbrev pub invariant-loop-j : goal.invariant-loop-j
invariant-loop-j l = l.ok ≡ all_to (λ i. not (eqb (nth l.ids i) (nth l.ids l.k))) l.j
