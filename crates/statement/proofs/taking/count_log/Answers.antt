-- A turn takes one block more or passes it over.
use mathlib.Core.Path.{ap, ◌∙◌}
use native.Mathlib.Omega.{arith}
use Rattle.statement.specs.declared.Stated.{Stated}
use Rattle.statement.proofs.Log.{log_none, room_now, log_taken, log_first, log_again}
use Rattle.statement.proofs.taking.count_log.Goals as goal
use Rattle.statement.proofs.taking.count_log.Goals.{in-Err, then-stated-lt1, else-stated-lt1, in_default}

pub loop-k-init : goal.loop-k-init
loop-k-init c =
    let none = c.requires.nothing_said in
    (omega (arith, ap (λ (t : Stated). t.passed) none), none ∙ log_none _ _ _)

pub take-requires : goal.take-requires
take-requires c = (room_now _ _ _ _ c.requires.in_order.0 c.requires.in_order.1 c.loop-k.invariant.1).lines

pub loop-k-preserved : goal.loop-k-preserved
loop-k-preserved c =
    let few = c.loop-k.invariant.0 in
    let T = c.loop-k.invariant.1 in
    let A = rw (c.gather-by.ensures, c.block_at.ensures) at c.take.ensures.after in
    elim c.match-take.branch [
      | in-Err w ↦
          let q = rw (c.gather-by.ensures, c.block_at.ensures) at w.in-Err.ensures.number in
          elim w.if-stated-lt1.branch [
            | then-stated-lt1 v ↦
                let l = v.if-stated-lt1.true in
                rw (w.stated-is, v.stated-is) (omega arith, log_first _ _ _ c.loop-k.k T A q (omega arith))
            | else-stated-lt1 v ↦
                let l = v.if-stated-lt1.false in
                rw (w.stated-is, v.stated-is) (omega arith, log_again _ _ _ c.loop-k.k T A q (omega arith))
          ]
      | in_default w ↦
          let q = rw (c.gather-by.ensures, c.block_at.ensures) at w.in_default.ensures.number in
          rw w.stated-is (omega arith, log_taken _ _ _ c.loop-k.k T A q)
    ]
