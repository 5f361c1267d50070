-- `amendment::find_place` meets its contract: the pair's refusal, or what the searches found. Assumes nothing.
use Rattle.std.proofs.Common.{ℕ, Option, ap, ◌∙◌, refl, arith}
use Rattle.blockfile.specs.File.{first_with}
use Rattle.amendment.specs.Pair.{pair_refusal}
use Rattle.amendment.specs.Finder.{standing}
use Rattle.amendment.proofs.Pair.{pair_in, err_says, ok_says}
use Rattle.amendment.proofs.Finder.{place_refused, place_stands}
use Rattle.amendment.proofs.find_place.Goals as goal

pub returns-in-Err : goal.returns-in-Err
returns-in-Err c =
    let a = c.args in
    let e = err_says (pair_refusal a.plan.now a.sheet.now) _ c.in-Err.ensures in
    let h = ap (λ r. r.number) e.0 in
    place_refused a.plan.now a.sheet.now a.id _ e.0 (omega (arith, e.1))

pub first_with-requires : goal.first_with-requires
first_with-requires c =
    let e = ok_says (pair_refusal c.args.plan.now c.args.sheet.now) c.in_default.ensures in
    let z = (pair_in c.args.plan.now c.args.sheet.now _ refl (omega (arith, e.0))).sheet.size in
    omega arith

pub first_with-requires-2 : goal.first_with-requires-2
first_with-requires-2 c =
    let e = ok_says (pair_refusal c.args.plan.now c.args.sheet.now) c.in_default.ensures in
    let z = (pair_in c.args.plan.now c.args.sheet.now _ refl (omega (arith, e.0))).plan.size in
    omega arith

pub returns : goal.returns
returns c =
    let a = c.args in
    let e = ok_says (pair_refusal a.plan.now a.sheet.now) c.in_default.ensures in
    place_stands a.plan.now a.sheet.now a.id _ _ refl (omega (arith, e.0))
    (c.standing.ensures
    ∙ ap (λ (f : Option ℕ). standing f c.first_with-2.result) c.first_with.ensures
    ∙ ap (standing (first_with a.sheet.now a.id)) c.first_with-2.ensures)
