-- `salvage::salvage` meets its contract: what the number says is written, or nothing. Assumes nothing.
use Rattle.std.proofs.Common.{length, ap, ◌∙◌, arith}
use Rattle.salvage.proofs.Outcome.{listed_most, GoneThrough, few_listed, few_kept, each_kept, room_for, outcome_refused, outcome_written}
use Rattle.salvage.proofs.salvage.Goals as goal

pub sift-sifted-requires : goal.sift-sifted-requires
sift-sifted-requires c =
    let m = listed_most (length c.args.file.now) in
    omega (arith, c.listed_in-n.ensures, m.0, m.1)

pub salvage_number-requires : goal.salvage_number-requires
salvage_number-requires c =
    let g : GoneThrough c.args.file.now c.listed_in-n.result c.sift-sifted.result =
    record { whole = c.listed_in-n.ensures; sifted = c.sift-sifted.ensures } in
    rw c.places-kept.ensures (few_kept g)

pub told-requires : goal.told-requires
told-requires c =
    let g : GoneThrough c.args.file.now c.listed_in-n.result c.sift-sifted.result =
    record { whole = c.listed_in-n.ensures; sifted = c.sift-sifted.ensures } in
    (omega arith, few_listed g)

pub returns-in-Err : goal.returns-in-Err
returns-in-Err c =
    let g : GoneThrough c.args.file.now c.listed_in-n.result c.sift-sifted.result =
    record { whole = c.listed_in-n.ensures; sifted = c.sift-sifted.ensures } in
    let o = outcome_refused g c.args.out.now (rw c.places-kept.ensures at c.in-Err.ensures) in
    (c.told.ensures ∙ o.0, o.1)

pub put_moved_up-requires : goal.put_moved_up-requires
put_moved_up-requires c =
    let g : GoneThrough c.args.file.now c.listed_in-n.result c.sift-sifted.result =
    record { whole = c.listed_in-n.ensures; sifted = c.sift-sifted.ensures } in
    rw c.places-kept.ensures
    ((few_kept g, room_for g c.args.out.now (rw c.places-kept.ensures at c.in_default.ensures)), each_kept g)

pub told-requires-2 : goal.told-requires-2
told-requires-2 c =
    let g : GoneThrough c.args.file.now c.listed_in-n.result c.sift-sifted.result =
    record { whole = c.listed_in-n.ensures; sifted = c.sift-sifted.ensures } in
    omega (arith, ap length c.places-kept.ensures, few_kept g, few_listed g)

pub returns : goal.returns
returns c =
    let g : GoneThrough c.args.file.now c.listed_in-n.result c.sift-sifted.result =
    record { whole = c.listed_in-n.ensures; sifted = c.sift-sifted.ensures } in
    let w =
    outcome_written g c.args.out.now (rw c.places-kept.ensures at c.in_default.ensures) _
    (omega (arith, ap length c.places-kept.ensures)) (rw c.places-kept.ensures at c.put_moved_up.ensures) in
    (c.told-2.ensures ∙ w.0, w.1)
