-- `cs_convert` meets its promise: the refusal is told. Assumes nothing.
use Rattle.std.proofs.Common.{◌∙◌}
use Rattle.conversion.proofs.Outcome.{convert_fine}
use Rattle.coreshare.proofs.Refused.{refused_back}
use Rattle.coreshare.proofs.converting.cs_convert.Goals as goal

pub returns : goal.returns
returns c = (c.tell_refusal.ensures ∙ rw c.convert.ensures.0 (refused_back _ (convert_fine _ _)), c.convert.ensures.1)
