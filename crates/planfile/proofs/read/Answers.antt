-- `planfile::read` meets its contract, by whether reading is refused. Assumes nothing.
use Rattle.std.proofs.Common.{◌≡◌, Ok, Err, ◌∙◌, rules, ap, arith}
use Rattle.plan.proofs.First.{ok_says, ok_unless, err_says, err_unless}
use Rattle.blockfile.proofs.File.{file_in}
use Rattle.planfile.specs.Records.{read_of}
use Rattle.planfile.proofs.Records.{plan_fine}
use Rattle.planfile.proofs.read.Goals as goal

pub returns-in_err-check_blocks : goal.returns-in_err-check_blocks
unfolding read_of
returns-in_err-check_blocks c =
    let e : c.from_residual.result ≡ Err c.in_err-check_blocks.field-0.0 = search rules in
    let x = err_says _ _ c.in_err-check_blocks.ensures in
    e ∙ err_unless _ _ x.0 (omega (arith, x, ap (λ r. r.number) x.0))

-- Past the test nothing is refused, so the length is right.
pub records_of-guests-requires : goal.records_of-guests-requires
records_of-guests-requires c =
    let z = (file_in c.args.bytes.now (ok_says _ c.in_ok-check_blocks.ensures).0).size in omega arith

pub overflow_cast-result : goal.overflow_cast-result
overflow_cast-result c =
    let z = (file_in c.args.bytes.now (ok_says _ c.in_ok-check_blocks.ensures).0).size in omega arith

pub returns : goal.returns
unfolding read_of
returns c =
    let o = ok_says _ c.in_ok-check_blocks.ensures in
    ap Ok (rw c.records_of-guests.ensures (plan_fine c.args.bytes.now o.0)) ∙ ok_unless _ _ (omega (arith, o.0))
