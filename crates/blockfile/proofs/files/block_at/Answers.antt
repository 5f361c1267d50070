-- `blockfile::files::block_at` meets its contract: 512 bytes from the block's first on. Assumes nothing.
use Rattle.std.proofs.Common.{◌∙◌}
use Rattle.std.proofs.lemmas.Option.{MatchOption-at_some}
use Rattle.blockfile.proofs.File.{part_at}
use Rattle.blockfile.proofs.files.block_at.Goals as goal

pub returns : goal.returns
returns c =
    (MatchOption-at_some _ _ _ c.unwrap.ensures c.first_chunk.ensures.cases).same
    ∙ part_at c.args.s.now c.args.k c.requires
