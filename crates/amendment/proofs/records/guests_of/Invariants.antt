-- `amendment::records::guests_of` meets its contract: after k turns the first k records stand. Assumes nothing.
use Rattle.std.proofs.Common.{◌≡◌}
use Rattle.blockfile.specs.Records.{records_of}
use Rattle.amendment.specs.Amended.{amended_block}
use Rattle.amendment.proofs.records.guests_of.Given as goal

abbrev pub invariant-loop-k : goal.invariant-loop-k
invariant-loop-k l = l.guests ≡ records_of (amended_block l.plan l.sheet) l.k
