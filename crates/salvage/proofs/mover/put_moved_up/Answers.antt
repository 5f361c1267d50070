-- After j turns the first j blocks stand.
use Rattle.std.proofs.Common.{◌≡◌, ℕ, ◌-◌, ◌*◌, ◌<◌, List, ◌++◌, length, take, drop, refl, ap, ◌∙◌, arith}
use Rattle.lists.specs.Places.{nth}
use Rattle.block.specs.Layout.{block_size}
use Rattle.blockfile.specs.File.{block_at}
use Rattle.blockfile.specs.Joined.{joined}
use Rattle.salvage.specs.Moving.{moved, moved_up}
use Rattle.blockfile.proofs.File.{part_long}
use Rattle.blockfile.proofs.Joined.{part_next}
use Rattle.salvage.proofs.Moving.{moved_length}
use Rattle.salvage.proofs.mover.put_moved_up.Goals as goal

pub loop-j-init : goal.loop-j-init
unfolding joined
loop-j-init c = refl

pub loop-j-preserved : goal.loop-j-preserved
loop-j-preserved c =
    let file = c.args.file.now in
    let kept = c.args.kept.now in
    let each : (k : ℕ) → k < c.loop-j.j → length (moved (block_at file (nth kept k)) k) ≡ block_size =
    λ k h.
    moved_length (block_at file (nth kept k)) k
    (part_long file (block_at file (nth kept k)) (nth kept k) refl (c.requires.1 k (omega arith)).0) in
    let behind : List ℕ =
    drop block_size
    (take (length c.loop-j.out - block_size * c.loop-j.j) (drop (block_size * c.loop-j.j) c.loop-j.out)) in
    let part = c.put_moved.ensures ∙ ap (λ (x : List ℕ). moved x c.loop-j.j ++ behind) c.block_at.ensures in
    part_next (λ i. moved (block_at file (nth kept i)) i) c.loop-j.j c.args.out.now c.loop-j.out _ each
    (omega arith) c.loop-j.invariant part

pub returns : goal.returns
unfolding moved_up
returns c =
    let e : c.loop-j.j ≡ length c.args.kept.now = omega arith in
    rw e at c.loop-j.invariant
