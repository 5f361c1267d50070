-- `blockwriter::write` meets its contract: what the number says is written, or nothing. Assumes nothing.
use Rattle.std.proofs.Common.{sym, ap, ◌∙◌, arith}
use Rattle.lists.proofs.Refusals.{ok_number, err_number}
use Rattle.plan.proofs.First.{ok_unless, err_unless}
use Rattle.plan.proofs.RangesLaws.{head_says}
use Rattle.blockparts.proofs.Parts.{by_refused, by_none}
use Rattle.blockwriter.specs.Writing.{with_place, block_of}
use Rattle.blockwriter.proofs.Writing.{write_in}
use Rattle.blockwriter.proofs.write.Goals as goal

pub returns-in-Err : goal.returns-in-Err
returns-in-Err c =
    let a = c.args in
    let e = err_number _ _ (sym c.in-Err.is ∙ c.write_number.ensures) in (
      err_unless _ _ (c.with_place.ensures ∙ ap (λ x. with_place x a.place) e.0)
          (omega (arith, e, ap (λ r. r.number) c.with_place.ensures)),
      by_refused _ (block_of a.guest a.place) a.buf.now e.1,
    )

-- The record is a Periodic guest's in its ranges there, and the buffer has room for its block.
pub put_block-requires : goal.put_block-requires
put_block-requires c =
    let i = write_in _ _ _ (ok_number _ (sym c.in_default.is ∙ c.write_number.ensures)).0 in
    (i.room, (i.low, ((head_says _ _ _ _ i.head).few, i.periodic)))

pub returns : goal.returns
returns c =
    let none = (ok_number _ (sym c.in_default.is ∙ c.write_number.ensures)).0 in
    (ok_unless _ _ (omega (arith, none)), c.put_block.ensures ∙ by_none _ _ c.args.buf.now none)
