-- `response::tasks::tasks_of` meets its contract: charged runs are far below 2 to the 32. Assumes nothing.
use native.Mathlib.Omega.{arith}
use Rattle.plan.specs.Records.{run_of}
use Rattle.plan.proofs.Charge.{charged_most}
use Rattle.response.proofs.tasks.tasks_of.Goals as goal

pub overflow_cast-run : goal.overflow_cast-run
overflow_cast-run c =
    let g = c.args.g.now in
    let most =
    charged_most (run_of g c.loop-i.i) g.charge (c.requires.runs c.loop-i.i (omega arith)) (omega arith) in
    omega (arith, c.charged_run.ensures, most)
