-- `cs_amended_smallest_capacity` meets its promise: the answer about the pair is told. Assumes nothing.
use Rattle.std.proofs.Common.{refl, ap, ◌∙◌}
use Rattle.coreshare.specs.Told.{capacity_told}
use Rattle.amendment.specs.Verdict.{pair_or, refusing_answer}
use Rattle.plan.proofs.First.{refused_told}
use Rattle.coreshare.proofs.amending.cs_amended_smallest_capacity.Goals as goal

pub returns : goal.returns
unfolding pair_or capacity_told
returns c =
    c.into.ensures ∙ ap capacity_told c.smallest_capacity.ensures
    ∙ refused_told capacity_told refusing_answer _ _ _ _ refl
