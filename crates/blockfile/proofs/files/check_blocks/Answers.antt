-- `blockfile::files::check_blocks` meets its contract, by whether the length is right. Assumes nothing.
use Rattle.std.proofs.Common.{sym, ◌∙◌, ap, length, arith}
use Rattle.plan.specs.First.{unless_refused}
use Rattle.plan.proofs.First.{err_unless}
use Rattle.blockfile.proofs.File.{size_says, sized, unsized}
use Rattle.blockfile.proofs.files.check_blocks.Goals as goal

pub returns-then-not-size_ok : goal.returns-then-not-size_ok
returns-then-not-size_ok c = err_unless _ _ (unsized _ _ (sym c.size_ok.ensures ∙ c.if-not-size_ok.true)) (omega arith)

pub check_first-requires : goal.check_first-requires
check_first-requires c =
    let z = size_says (length c.args.s.now) (sym c.size_ok.ensures ∙ c.if-not-size_ok.false) in omega arith

pub returns : goal.returns
returns c =
    c.check_first.ensures ∙ ap (λ r. unless_refused r tt) (sized _ _ (sym c.size_ok.ensures ∙ c.if-not-size_ok.false))
