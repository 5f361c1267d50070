-- At the loop's end the words are the column.
use Rattle.std.proofs.Common.{ℕ, sym, ◌∙◌, ◌+◌, arith}
use lib.Seq.{ext_get_or}
use Rattle.lists.specs.Places.{nth}
use Rattle.lists.specs.Table.{table}
use Rattle.rows.specs.Words.{column}
use Rattle.lists.proofs.Table.{table_length, table_at}
use Rattle.rows.proofs.column_at.Goals as goal

pub returns : goal.returns
unfolding column
returns c =
    let f = λ (i : ℕ). nth c.args.row.now (c.args.first + i) in
    ext_get_or 0 c.loop-i.x (table f 16) (c.loop-i.invariant.0 ∙ sym (table_length f 16))
    (λ i b. c.loop-i.invariant.1 i (omega arith) ∙ sym (table_at f 0 16 i (omega arith)))
