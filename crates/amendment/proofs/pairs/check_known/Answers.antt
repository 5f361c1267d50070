-- `amendment::pairs::check_known` meets its contract: what is left has the same first refusal. Assumes nothing.
use Rattle.std.proofs.Common.{◌≡◌, ◌-◌, ap, sym, ◌∙◌, refl, arith}
use Rattle.amendment.specs.Pair.{foreign_number}
use Rattle.plan.proofs.First.{first_here, first_next, first_end, ok_unless, err_unless}
use Rattle.amendment.proofs.Pair.{foreign, known}
use Rattle.amendment.proofs.pairs.check_known.Goals as goal

pub loop-k-init : goal.loop-k-init
loop-k-init c = let h : c.args.n - 0 ≡ c.args.n = omega arith in rw h refl

pub returns-then-not-known_at : goal.returns-then-not-known_at
returns-then-not-known_at c =
    let a = c.args in
    err_unless _ _
    (first_here (foreign_number a.plan.now a.sheet.now) a.n c.loop-k.k 16 c.loop-k-test.true
    (foreign a.plan.now a.sheet.now c.loop-k.k (sym c.known_at.ensures ∙ c.if-not-known_at.true))
    (omega arith)
    ∙ c.loop-k.invariant)
    (omega arith)

pub loop-k-preserved : goal.loop-k-preserved
loop-k-preserved c =
    let a = c.args in
    first_next (foreign_number a.plan.now a.sheet.now) a.n c.loop-k.k 0 c.loop-k-test.true
    (known a.plan.now a.sheet.now c.loop-k.k (sym c.known_at.ensures ∙ c.if-not-known_at.false))
    (omega arith)
    ∙ c.loop-k.invariant

pub returns : goal.returns
returns c =
    let none = ap (λ r. r.number) (first_end _ c.args.n _ (omega arith) ∙ c.loop-k.invariant) in
    ok_unless _ _ (omega arith)
