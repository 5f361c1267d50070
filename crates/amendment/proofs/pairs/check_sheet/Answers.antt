-- `amendment::pairs::check_sheet` meets its contract: the blocks' refusal, or else that of the second pass. Assumes
-- nothing.
use Rattle.std.proofs.Common.{◌≡◌, Err, false, ap, ◌∙◌, refl, arith, rules}
use Rattle.plan.specs.First.{unless_refused}
use Rattle.blockfile.specs.File.{blocks_refusal}
use Rattle.plan.proofs.First.{ok_says, err_says, err_unless}
use Rattle.blockfile.proofs.File.{blocks_in_lem}
use Rattle.amendment.proofs.Pair.{blocks_refused, blocks_passed}
use Rattle.amendment.proofs.pairs.check_sheet.Goals as goal

pub returns-in_err-check_blocks : goal.returns-in_err-check_blocks
returns-in_err-check_blocks c =
    let a = c.args in
    let q : c.from_residual.result ≡ Err c.in_err-check_blocks.field-0.0 = search rules in
    let e = err_says (blocks_refusal false a.sheet.now) _ c.in_err-check_blocks.ensures in
    let h = ap (λ r. r.number) e.0 in
    q ∙ err_unless _ _ (blocks_refused a.plan.now a.sheet.now _ e.0 (omega (arith, e.1))) (omega (arith, e.1))

pub check_known-requires : goal.check_known-requires
check_known-requires c =
    let e = ok_says (blocks_refusal false c.args.sheet.now) c.in_ok-check_blocks.ensures in
    let z = (blocks_in_lem false c.args.sheet.now e.0).size in
    let p = c.requires in
    omega arith

pub returns : goal.returns
returns c =
    let a = c.args in
    let e = ok_says (blocks_refusal false a.sheet.now) c.in_ok-check_blocks.ensures in
    c.check_known.ensures
    ∙ ap (λ r. unless_refused r tt) (blocks_passed a.plan.now a.sheet.now _ _ refl (omega (arith, e.0)) refl)
