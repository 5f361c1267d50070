-- A row that is read is the record at its place. Assumes nothing.
use Rattle.std.proofs.Common.{◌∙◌}
use Rattle.rows.proofs.Words.{guest_is}
use Rattle.rows.proofs.rows.RowsAsPlan.guest.Goals as goal

pub returns : goal.returns
returns c = c.guest_of.ensures ∙ guest_is c.args.self.now.count _ c.args.k c.requires
