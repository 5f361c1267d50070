-- `amendment::pairs::check_pair` meets its contract: the plan's refusal, the sheet's, or none. Assumes nothing.
use Rattle.std.proofs.Common.{ap, ◌∙◌, refl, arith}
use Rattle.blockfile.specs.File.{file_refusal}
use Rattle.amendment.specs.Pair.{sheet_refusal}
use Rattle.plan.proofs.First.{ok_says, err_says}
use Rattle.blockfile.proofs.File.{file_in}
use Rattle.amendment.proofs.Pair.{plan_refused, sheet_refused, pair_fine, err_located, ok_located}
use Rattle.amendment.proofs.pairs.check_pair.Goals as goal

pub returns-in-Err : goal.returns-in-Err
returns-in-Err c =
    let e = err_says (file_refusal c.args.plan.now) _ c.in-Err.ensures in
    let h = ap (λ r. r.number) e.0 in
    let d = ap (λ r. r.number) c.located.ensures in
    err_located _ _
    (c.located.ensures ∙ plan_refused c.args.plan.now c.args.sheet.now _ e.0 (omega (arith, e.1)))
    (omega (arith, e.1))

pub check_sheet-requires : goal.check_sheet-requires
check_sheet-requires c =
    let e = ok_says (file_refusal c.args.plan.now) c.in_default.ensures in
    let z = (file_in c.args.plan.now e.0).size in
    omega arith

pub returns-in-Err-check_sheet : goal.returns-in-Err-check_sheet
returns-in-Err-check_sheet c =
    let p = ok_says (file_refusal c.args.plan.now) c.in_default.ensures in
    let e = err_says (sheet_refusal c.args.plan.now c.args.sheet.now) _ c.in-Err-check_sheet.ensures in
    let h = ap (λ r. r.number) e.0 in
    let d = ap (λ r. r.number) c.located-in-Err-check_sheet.ensures in
    err_located _ _
    (c.located-in-Err-check_sheet.ensures
    ∙ sheet_refused c.args.plan.now c.args.sheet.now _ _ refl (omega (arith, p.0)) e.0 (omega (arith, e.1)))
    (omega (arith, e.1))

pub returns : goal.returns
returns c =
    let p = ok_says (file_refusal c.args.plan.now) c.in_default.ensures in
    let q = ok_says (sheet_refusal c.args.plan.now c.args.sheet.now) c.in_default-check_sheet.ensures in
    let z =
    ap (λ r. r.number)
    (pair_fine c.args.plan.now c.args.sheet.now _ _ refl (omega (arith, p.0)) refl (omega (arith, q.0))) in
    ok_located _ _ (omega arith)
