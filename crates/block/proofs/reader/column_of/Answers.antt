-- `block::reader::column_of` meets its contract: each number is the word asked for. Assumes nothing.
use Rattle.std.proofs.Common.{◌+◌, ◌*◌, rules, arith}
use Rattle.words.specs.Word.{word}
use Rattle.block.specs.Layout.{entry_words}
use Rattle.block.proofs.Ranges.{each_by}
use Rattle.block.proofs.Reading.{column_by}
use Rattle.block.proofs.reader.column_of.Goals as goal

pub returns : goal.returns
returns c =
    column_by _ _ _ c.from_fn.ensures.items.long
    (λ i h. each_by _ _ _ (λ i. word c.args.b.now (c.args.first + entry_words * i)) (λ i y q k. search rules) 0 16
    c.from_fn.ensures.items.each i (omega arith) (omega arith))
