-- `amendment::records::read` meets its contract, by whether the pair is refused. Assumes nothing.
use Rattle.std.proofs.Common.{◌≡◌, Err, ap, ◌∙◌, refl, arith, rules}
use Rattle.amendment.specs.declared.Located.{Located}
use Rattle.amendment.specs.Pair.{pair_refusal}
use Rattle.amendment.proofs.Pair.{sizes, err_says, ok_says, err_located, ok_located}
use Rattle.amendment.proofs.records.read.Goals as goal

pub returns-in_err-check_pair : goal.returns-in_err-check_pair
returns-in_err-check_pair c =
    let r = pair_refusal c.args.plan.now c.args.sheet.now in
    let q : c.from_residual.result ≡ Err c.in_err-check_pair.field-0.0 = search rules in
    let e = err_says r tt c.in_err-check_pair.ensures in
    let h = ap (λ (x : Located). x.number) e.0 in
    q ∙ err_located r _ e.0 (omega (arith, e.1))

pub amended-requires : goal.amended-requires
amended-requires c =
    let e = ok_says (pair_refusal c.args.plan.now c.args.sheet.now) c.in_ok-check_pair.ensures in
    sizes c.args.plan.now c.args.sheet.now _ refl (omega (arith, e.0))

pub returns : goal.returns
returns c =
    let r = pair_refusal c.args.plan.now c.args.sheet.now in
    let e = ok_says r c.in_ok-check_pair.ensures in
    rw c.amended.ensures (ok_located r _ (omega (arith, e.0)))
