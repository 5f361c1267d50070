-- `blockfile::files::is_new` meets its contract: each earlier block's id is another. Assumes nothing.
use Rattle.std.proofs.Common.{◌≡◌, ℕ, true, false, not, eqb, rules, arith, tests}
use Rattle.std.proofs.lemmas.Iterator.{cases_from_all, YieldsList-from_range}
use Rattle.plan.specs.Order.{new_id}
use Rattle.blockfile.specs.File.{id_at}
use Rattle.block.proofs.Ranges.{all_below}
use Rattle.blockfile.proofs.files.is_new.Goals as goal

pub returns : goal.returns
unfolding new_id
returns c =
    let f = λ (j : ℕ). not (eqb (id_at c.args.s.now j) (id_at c.args.s.now c.args.k)) in
    all_below f c.args.k _
    (cases_from_all _ _ c.all.result (λ j. f j ≡ true) (λ j. f j ≡ false) c.all.ensures.ran
    (YieldsList-from_range 0 c.args.k c.args.k (search rules) (omega arith))
    (λ x q k. search (rules, tests)) (λ x q k. search (rules, tests)))
