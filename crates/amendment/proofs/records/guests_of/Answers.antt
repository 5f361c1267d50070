-- `amendment::records::guests_of` meets its contract: after k turns the first k records stand. Assumes nothing.
use Rattle.std.proofs.Common.{replicate, ap, ◌∙◌, arith}
use Rattle.plan.specs.Ranges.{most_guests}
use Rattle.amendment.specs.Amended.{amended_block}
use Rattle.blockfile.proofs.Records.{no_records, records_next}
use Rattle.amendment.proofs.records.guests_of.Goals as goal

pub loop-k-init : goal.loop-k-init
loop-k-init c =
    ap (replicate most_guests) c.blank_guest-guests.ensures
    ∙ no_records (amended_block c.args.plan.now c.args.sheet.now)

pub loop-k-preserved : goal.loop-k-preserved
loop-k-preserved c =
    records_next (amended_block c.args.plan.now c.args.sheet.now) _ _ _ (omega arith) c.loop-k.invariant
    c.guest_at.ensures
