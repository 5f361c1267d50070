-- `words::put_u32` meets its contract: the word's four bytes are put in as a part. Assumes nothing.
use Rattle.std.proofs.Common.{◌≡◌, ◌+◌, ◌-◌, ◌∙◌, arith}
use Rattle.words.proofs.WithWord.{with_part}
use Rattle.words.proofs.put_u32.Goals as goal

pub returns : goal.returns
returns c =
    let e : c.args.i + 4 - c.args.i ≡ 4 = omega arith in
    rw (e, c.copy_from_slice.ensures.after ∙ c.to_le_bytes.ensures)
    (with_part c.args.b.now c.args.i c.args.w c.requires)
