-- `cs_write` meets its promise: the refusal is told. Assumes nothing.
use Rattle.std.proofs.Common.{◌∙◌}
use Rattle.blockwriter.proofs.Writing.{write_fine}
use Rattle.coreshare.proofs.Refused.{refused_back}
use Rattle.coreshare.proofs.blocks.cs_write.Goals as goal

pub returns : goal.returns
returns c = (c.tell_refusal.ensures ∙ rw c.write.ensures.0 (refused_back _ (write_fine _ _ _)), c.write.ensures.1)
