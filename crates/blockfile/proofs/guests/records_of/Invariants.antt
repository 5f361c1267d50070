-- `blockfile::guests::records_of` meets its contract: after k turns the first k records stand. Assumes nothing.
use Rattle.std.proofs.Common.{◌≡◌}
use Rattle.blockfile.specs.File.{block_at}
use Rattle.blockfile.specs.Records.{records_of}
use Rattle.blockfile.proofs.guests.records_of.Given as goal

abbrev pub invariant-loop-k : goal.invariant-loop-k
invariant-loop-k l = l.guests ≡ records_of (block_at l.s) l.k
