-- A turn looks at one entry more.
use mathlib.Core.Path.{◌≡◌, refl}
use native.Mathlib.Omega.{arith}
use Rattle.std.proofs.Common.{Ok, Err}
use Rattle.logblock.specs.Reading.{entry_in}
use Rattle.statement.specs.Lent.{aim_of}
use Rattle.statement.proofs.Aiming.{aims_none, aims_line, aims_no_task, aims_no_guest, aims_done, aims_lack}
use Rattle.statement.proofs.counting.aim_all.Goals as goal
use Rattle.statement.proofs.counting.aim_all.Goals.{in-Ok, in-Err-eq8}

pub loop-i-init : goal.loop-i-init
loop-i-init c = aims_none _ _ _ refl

pub loop-i-preserved : goal.loop-i-preserved
loop-i-preserved c =
    let A = c.loop-i.invariant in
    elim c.match-aim.branch [
      | in-Ok w ↦
          let e : Ok w.in-Ok.line ≡ aim_of c.args.by.now.plan.now (entry_in c.args.b.now c.loop-i.i) =
          rw c.entry_of.ensures at w.in-Ok.ensures in
          rw (w.at-is, w.tasks-is) (aims_line _ _ A (omega arith) e)
      | in-Err-eq8 w ↦
          let e : Err w.in-Err-eq8.field-0 ≡ aim_of c.args.by.now.plan.now (entry_in c.args.b.now c.loop-i.i) =
          rw c.entry_of.ensures at w.in-Err-eq8.ensures in
          let z : w.in-Err-eq8.field-0 ≡ 8 = omega arith in
          rw (w.at-is, w.tasks-is) (aims_no_task _ _ A (rw z at e))
    ]

pub returns-in-Err : goal.returns-in-Err
returns-in-Err c =
    let e : Err c.in-Err.number ≡ aim_of c.args.by.now.plan.now (entry_in c.args.b.now c.loop-i.i) =
    rw c.entry_of.ensures at c.in-Err.ensures in
    aims_no_guest _ _ c.loop-i.invariant c.loop-i-test.true e c.in-Err.number-test.1

pub returns-then-tasks : goal.returns-then-tasks
returns-then-tasks c =
    let k : c.loop-i.i ≡ c.args.jobs = omega arith in
    let A = rw (k, c.if-tasks.true) at c.loop-i.invariant in
    aims_done _ _ A

pub returns-else-tasks : goal.returns-else-tasks
returns-else-tasks c =
    let k : c.loop-i.i ≡ c.args.jobs = omega arith in
    let A = rw (k, c.if-tasks.false) at c.loop-i.invariant in
    aims_lack _ _ A
