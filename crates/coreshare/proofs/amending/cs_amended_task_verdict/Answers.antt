-- `cs_amended_task_verdict` meets its promise: the answer about the pair is told. Assumes nothing.
use Rattle.std.proofs.Common.{refl, ap, ◌∙◌}
use Rattle.coreshare.specs.Told.{task_told}
use Rattle.amendment.specs.Verdict.{pair_or, refusing_answer}
use Rattle.plan.proofs.First.{refused_told}
use Rattle.coreshare.proofs.amending.cs_amended_task_verdict.Goals as goal

pub returns : goal.returns
unfolding pair_or task_told
returns c =
    c.into.ensures ∙ ap task_told c.task_verdict.ensures
    ∙ refused_told task_told refusing_answer _ _ _ _ refl
