-- `blockfile::files::check_first` meets its contract: what is left has the same first refusal. Assumes nothing.
use Rattle.std.proofs.Common.{◌≡◌, ◌-◌, ap, sym, ◌∙◌, refl, arith}
use Rattle.lists.proofs.Refusals.{ok_number, err_number}
use Rattle.plan.proofs.First.{first_here, first_next, first_end, ok_unless, err_unless}
use Rattle.blockfile.proofs.files.check_first.Goals as goal

pub loop-k-init : goal.loop-k-init
loop-k-init c = let h : c.args.n - 0 ≡ c.args.n = omega arith in rw h refl

pub returns-in-Err : goal.returns-in-Err
returns-in-Err c =
    let e = err_number _ _ (sym c.in-Err.is ∙ c.check_block.ensures) in
    err_unless _ _ (first_here _ c.args.n _ _ c.loop-k-test.true e.0 (omega (arith, e)) ∙ c.loop-k.invariant)
    (omega (arith, e))

pub loop-k-preserved : goal.loop-k-preserved
loop-k-preserved c =
    let e = ok_number _ (sym c.in_default.is ∙ c.check_block.ensures) in
    first_next _ c.args.n _ _ c.loop-k-test.true (sym e.0) (omega arith) ∙ c.loop-k.invariant

pub returns : goal.returns
returns c =
    let none = ap (λ r. r.number) (first_end _ c.args.n _ (omega arith) ∙ c.loop-k.invariant) in
    ok_unless _ _ (omega arith)
