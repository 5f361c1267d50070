-- `plan::place_of` meets its contract: what is left to pass has the same first place. Assumes nothing.
use Rattle.std.proofs.Common.{◌≡◌, eqb, ◌-◌}
use Rattle.lists.specs.Places.{nth}
use Rattle.lists.specs.Search.{first_from}
use Rattle.plan.proofs.find.place_of.Given as goal

abbrev pub invariant-loop-k : goal.invariant-loop-k
invariant-loop-k l =
    first_from (λ j. eqb (nth l.ids j) l.id) (l.n - l.k) l.k ≡ first_from (λ j. eqb (nth l.ids j) l.id) l.n 0
