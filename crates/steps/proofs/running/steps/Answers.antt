-- The loop's invariant: the ticks done are steps one after the other, and the last finished no job.
use Rattle.std.proofs.Common.{arith}
use Rattle.steps.specs.Step.{none, more}
use Rattle.steps.proofs.running.steps.Goals as goal

pub loop-done-init : goal.loop-done-init
loop-done-init c = (λ e. omega arith, none)

pub returns-then-turn-eq1 : goal.returns-then-turn-eq1
returns-then-turn-eq1 c =
    let l = c.loop-done in
    record {
      steps = more l.invariant.1 l.invariant.0 c.step-turn.ensures;
      most = omega arith;
      over = λ m. absurd (m c.if-turn-eq1.true);
    }

pub loop-done-preserved : goal.loop-done-preserved
loop-done-preserved c =
    let l = c.loop-done in
    (c.if-turn-eq1.false, more l.invariant.1 l.invariant.0 c.step-turn.ensures)
