-- `rounding::Edges::move_on` meets its contract: each edge that the window has passed moves on, and the sum with it.
-- Assumes nothing.
use Prim.Native.Nat.{◌+◌}
use native.Mathlib.Omega.{arith}
use borrow.Author.Rules.{rules}
use Rattle.lists.specs.Places.{nth}
use Rattle.rounding.proofs.EdgesLaws.{edge_most, more_most, moving_start, moving_most, moving_stays, moving_moves}
use Rattle.rounding.proofs.Edges.move_on.Goals as goal
use Rattle.rounding.proofs.Edges.move_on.Goals.{then-old-end, else-old-end}

pub loop-k-init : goal.loop-k-init
loop-k-init c = moving_start _ _ _ _ _ (search rules) c.requires.behind

pub overflow_mul-self : goal.overflow_mul-self
overflow_mul-self c =
    let k = c.loop-k.k in
    let a = c.args in
    let h = c.loop-k-test.true in
    omega (
      arith,
      edge_most (nth c.loop-k.self.at k) (a.v + nth a.late.now k) (nth a.every.now k) c.steps-more.result
          c.steps-more.ensures.0 c.if-old-end.true,
      c.requires.n_bound.1.0 k h,
      c.requires.n_bound.1.1 k h,
    )

pub overflow_add-self : goal.overflow_add-self
overflow_add-self c =
    let k = c.loop-k.k in
    let a = c.args in
    let h = c.loop-k-test.true in
    omega (
      arith,
      edge_most (nth c.loop-k.self.at k) (a.v + nth a.late.now k) (nth a.every.now k) c.steps-more.result
          c.steps-more.ensures.0 c.if-old-end.true,
      c.requires.n_bound.1.0 k h,
      c.requires.n_bound.1.1 k h,
    )

pub overflow_add-self-then-old-end : goal.overflow_add-self-then-old-end
overflow_add-self-then-old-end c =
    let h = c.loop-k-test.true in
    omega (
      arith,
      more_most c.from.result c.from-then-old-end.result
          (omega (arith, c.steps-more.ensures.1, c.requires.n_bound.1.0 c.loop-k.k h)) (omega arith),
      moving_most _ _ _ _ _ c.loop-k.invariant h,
      c.requires.n_bound.0,
    )

pub loop-k-preserved : goal.loop-k-preserved
loop-k-preserved c =
    let h = c.loop-k-test.true in
    let m = c.loop-k.invariant in
    elim c.if-old-end.branch [
      | then-old-end w ↦
          rw w.self-is
          (moving_moves _ _ _ _ _ m h c.requires.n_bound.0 (c.requires.n_bound.1.0 _ h) w.if-old-end.true _ _ _
          w.steps-more.ensures.0 w.from.ensures w.from-then-old-end.ensures (omega arith))
      | else-old-end w ↦ rw w.self-is (moving_stays _ _ _ _ _ m h (omega (arith, w.if-old-end.false)))
    ]
