-- `cs_check` meets its promise: the refusal is told. Assumes nothing.
use Rattle.std.proofs.Common.{◌∙◌}
use Rattle.plan.proofs.PeriodicLaws.{records_fine}
use Rattle.coreshare.proofs.Refused.{refused_back}
use Rattle.coreshare.proofs.blocks.cs_check.Goals as goal

pub returns : goal.returns
returns c = c.tell_refusal.ensures ∙ rw c.check.ensures (refused_back _ (records_fine c.args.plan))
