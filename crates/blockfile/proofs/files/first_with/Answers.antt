-- `blockfile::files::first_with` meets its contract: no block before the one found has the id. Assumes nothing.
use Rattle.std.proofs.Common.{◌≡◌, ℕ, true, false, eqb, rules, tests}
use Rattle.std.proofs.lemmas.Iterator.{first_from_Range}
use Rattle.blockfile.specs.File.{id_at, blocks_in}
use Rattle.blockfile.proofs.File.{found_first}
use Rattle.blockfile.proofs.files.first_with.Goals as goal

pub returns : goal.returns
returns c =
    let f = λ (k : ℕ). eqb (id_at c.args.s.now k) c.args.id in
    found_first f (blocks_in c.args.s.now) _
    (first_from_Range _ _ _ c.find.result (λ k. f k ≡ true) (λ k. f k ≡ false) c.find.ensures.ran
    (λ x q k. search (rules, tests)) (λ x q k. search (rules, tests)))
