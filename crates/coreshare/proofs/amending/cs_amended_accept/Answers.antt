-- `cs_amended_accept` meets its promise: the answer about the pair is told. Assumes nothing.
use Rattle.std.proofs.Common.{refl, ap, ◌∙◌}
use Rattle.coreshare.specs.Told.{plan_told}
use Rattle.amendment.specs.Verdict.{pair_or, refusing_answer}
use Rattle.plan.proofs.First.{refused_told}
use Rattle.coreshare.proofs.amending.cs_amended_accept.Goals as goal

pub returns : goal.returns
unfolding pair_or plan_told
returns c =
    c.into.ensures ∙ ap plan_told c.accept.ensures
    ∙ refused_told plan_told refusing_answer _ _ _ _ refl
