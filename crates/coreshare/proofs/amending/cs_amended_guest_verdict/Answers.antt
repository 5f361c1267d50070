-- `cs_amended_guest_verdict` meets its promise: the answer about the pair is told. Assumes nothing.
use Rattle.std.proofs.Common.{refl, ap, ◌∙◌}
use Rattle.coreshare.specs.Told.{guest_told}
use Rattle.amendment.specs.Verdict.{pair_or, refusing_answer}
use Rattle.plan.proofs.First.{refused_told}
use Rattle.coreshare.proofs.amending.cs_amended_guest_verdict.Goals as goal

pub returns : goal.returns
unfolding pair_or guest_told
returns c =
    c.into.ensures ∙ ap guest_told c.guest_verdict.ensures
    ∙ refused_told guest_told refusing_answer _ _ _ _ refl
