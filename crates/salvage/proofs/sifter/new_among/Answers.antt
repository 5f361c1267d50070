-- The id is none of those passed.
use Rattle.std.proofs.Common.{◌≡◌, false, true, not, eqb, rules, tests, arith}
use Rattle.lists.specs.Places.{nth}
use Rattle.blockfile.specs.File.{id_at}
use Rattle.salvage.specs.Keeping.{new_among}
use Rattle.lists.proofs.All.{all_none, all_next, all_fails, all_done}
use Rattle.salvage.proofs.sifter.new_among.Goals as goal

pub loop-j-init : goal.loop-j-init
loop-j-init c = all_none _

pub returns-then-id_at-id : goal.returns-then-id_at-id
unfolding new_among
returns-then-id_at-id c =
    let s = c.args.file.now in
    let q : not (eqb (id_at s (nth c.args.kept.now c.loop-j.j-index)) (id_at s c.args.k)) ≡ false =
    search (rules, tests) in
    all_fails _ _ c.loop-j.j-index c.loop-j-test.true q

pub loop-j-preserved : goal.loop-j-preserved
loop-j-preserved c =
    let s = c.args.file.now in
    let q : not (eqb (id_at s (nth c.args.kept.now c.loop-j.j-index)) (id_at s c.args.k)) ≡ true =
    search (rules, tests) in
    all_next _ _ c.loop-j.invariant q

pub returns : goal.returns
unfolding new_among
returns c = all_done _ c.loop-j.j-index _ (omega arith) c.loop-j.invariant
