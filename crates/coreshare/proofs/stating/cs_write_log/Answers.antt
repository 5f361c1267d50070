-- `cs_write_log` meets its promise: the refusal is told. Assumes nothing.
use Rattle.std.proofs.Common.{ap, ◌∙◌}
use Rattle.plan.specs.First.{refused}
use Rattle.coreshare.proofs.Refused.{refused_back}
use Rattle.coreshare.proofs.stating.cs_write_log.Goals as goal

pub returns : goal.returns
returns c = (
  c.tell_refusal.ensures ∙ rw c.write_log.ensures.0 (refused_back _ (λ e. ap (λ n. refused n 0) e)),
  c.write_log.ensures.1,
)
