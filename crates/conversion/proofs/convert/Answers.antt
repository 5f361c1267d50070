-- `conversion::convert` meets its contract: what the refusal lets through is written, or nothing. Assumes nothing.
use Rattle.std.proofs.Common.{◌≡◌, Err, ◌∙◌, ◌++◌, ℕ, drop, ap, rules, arith}
use Rattle.plan.proofs.First.{ok_says, err_says, ok_unless, err_unless}
use Rattle.conversion.specs.Converting.{converted_bytes}
use Rattle.conversion.proofs.Outcome.{convert_in, blocks_few, blocks_all, tasks_few, out_refused, out_written}
use Rattle.conversion.proofs.convert.Goals as goal

pub returns-in_err-check : goal.returns-in_err-check
returns-in_err-check c =
    let e : c.from_residual.result ≡ Err c.in_err-check.field-0.0 = search rules in
    let x = err_says _ _ c.in_err-check.ensures in
    let n = ap (λ r. r.number) x.0 in
    (e ∙ err_unless _ _ x.0 (omega (arith, x)), out_refused _ _ _ x.1)

pub put_converted-requires : goal.put_converted-requires
put_converted-requires c =
    let i = convert_in _ _ (ok_says _ c.in_ok-check.ensures).0 in
    let s = c.args.plan.now in
    ((blocks_few s i.0, omega (arith, blocks_all s i.0, i.1)), tasks_few s i.0)

pub returns : goal.returns
returns c =
    let none = (ok_says _ c.in_ok-check.ensures).0 in
    let a = c.args in (
      ok_unless _ _ (omega (arith, none)),
      c.put_converted.ensures
          ∙ ap (λ (n : ℕ). converted_bytes a.plan.now ++ drop n a.out.now) (blocks_all _ (convert_in _ _ none).0)
          ∙ out_written _ _ _ none,
    )
