-- `response::gaps::gaps_of` meets its contract: the places passed hold what each task meets of the gap. Assumes
-- nothing.
use Rattle.equation.specs.System.{gap_for}
use Rattle.plan.specs.Filled.{Filled}
use Rattle.plan.specs.Marks.{marked}
use Rattle.response.proofs.gaps.gaps_of.Given as goal

abbrev pub invariant-loop-i : goal.invariant-loop-i
invariant-loop-i l = Filled l.r (λ j. gap_for (marked l.marks j) l.gap) l.i
