-- The id is none of those passed.
use Rattle.std.proofs.Common.{◌≡◌, true, not, eqb}
use Rattle.lists.specs.All.{all_to}
use Rattle.lists.specs.Places.{nth}
use Rattle.blockfile.specs.File.{id_at}
use Rattle.salvage.proofs.sifter.new_among.Given as goal

abbrev pub invariant-loop-j : goal.invariant-loop-j
invariant-loop-j l = all_to (λ i. not (eqb (id_at l.file (nth l.kept i)) (id_at l.file l.k))) l.j-index ≡ true
