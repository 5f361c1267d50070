-- `conversion::check` meets its contract: the refusal of reading, then the one test. Assumes nothing.
use Rattle.std.proofs.Common.{◌≡◌, Err, ◌∙◌, ap, rules, arith}
use Rattle.plan.proofs.First.{ok_says, err_says, ok_unless, err_unless}
use Rattle.conversion.proofs.Outcome.{reading_refused, twelve, none}
use Rattle.conversion.proofs.check.Goals as goal

pub returns-in_err-check_blocks : goal.returns-in_err-check_blocks
returns-in_err-check_blocks c =
    let e : c.from_residual.result ≡ Err c.in_err-check_blocks.field-0.0 = search rules in
    let x = err_says _ _ c.in_err-check_blocks.ensures in
    let n = ap (λ r. r.number) x.0 in
    e ∙ err_unless _ _ (x.0 ∙ reading_refused _ _ x.1) (omega (arith, x))

pub returns-then-room-bytes : goal.returns-then-room-bytes
returns-then-room-bytes c =
    let read = (ok_says _ c.in_ok-check_blocks.ensures).0 in
    err_unless _ _ (twelve _ _ (omega (arith, read)) c.if-room-bytes.true) (omega arith)

pub returns : goal.returns
returns c =
    let read = (ok_says _ c.in_ok-check_blocks.ensures).0 in
    let n = ap (λ r. r.number) (none _ _ (omega (arith, read)) c.if-room-bytes.false) in
    ok_unless _ _ (omega arith)
