-- `planfile::finding::find_place` meets its contract: reading's refusal, or what the search found. Assumes nothing.
use Rattle.std.proofs.Common.{◌≡◌, Err, ◌∙◌, rules, ap, arith}
use Rattle.plan.proofs.First.{ok_says, err_says, err_unless}
use Rattle.blockfile.proofs.File.{file_in}
use Rattle.planfile.proofs.Finder.{place_refused, found_or_seven}
use Rattle.planfile.proofs.finding.find_place.Goals as goal

pub returns-in_err-check_blocks : goal.returns-in_err-check_blocks
returns-in_err-check_blocks c =
    let e : c.from_residual.result ≡ Err c.in_err-check_blocks.field-0.0 = search rules in
    let x = err_says _ _ c.in_err-check_blocks.ensures in
    let n = ap (λ r. r.number) x.0 in
    e ∙ err_unless _ _ (place_refused _ _ _ x.0 (omega (arith, x))) (omega (arith, x))

-- Past the test nothing is refused, so the length is right.
pub first_with-requires : goal.first_with-requires
first_with-requires c =
    let z = (file_in c.args.bytes.now (ok_says _ c.in_ok-check_blocks.ensures).0).size in omega arith

pub returns : goal.returns
returns c =
    let o = ok_says _ c.in_ok-check_blocks.ensures in
    c.ok_or.ensures.value ∙ rw c.first_with.ensures (found_or_seven c.args.bytes.now c.args.id o.0)
