-- By the guest's place in the column of ids, and by its number of tasks.
use native.Mathlib.Omega.{arith}
use mathlib.Core.Path.{sym, ◌∙◌}
use Rattle.plan.proofs.RangesLaws.{within_says}
use Rattle.statement.proofs.Lent.{few_guests, few_tasks, aim_no_guest, aim_no_task, aim_line}
use Rattle.statement.proofs.counting.aim.Goals as goal

pub place_of-k-requires : goal.place_of-k-requires
place_of-k-requires c = omega (arith, few_guests c.args.by.now.fits)

pub returns-then-n-k : goal.returns-then-n-k
returns-then-n-k c = aim_no_guest c.args.by.now.fits c.args.entry c.place_of-k.ensures c.if-n-k.true

pub bounds-by-k : goal.bounds-by-k
bounds-by-k c = omega (arith, few_guests c.args.by.now.fits)

pub returns-then-not-has_task : goal.returns-then-not-has_task
returns-then-not-has_task c =
    aim_no_task c.args.by.now.fits c.args.entry c.place_of-k.ensures c.if-n-k.false
    (sym c.has_task.ensures ∙ c.if-not-has_task.true)

pub overflow_add-result : goal.overflow_add-result
overflow_add-result c =
    let C = c.args.by.now.fits in
    let w = within_says 1 _ c.args.entry.task (sym c.has_task.ensures ∙ c.if-not-has_task.false) in
    omega (arith, few_guests C, few_tasks C _ c.if-n-k.false, w.1)

pub returns : goal.returns
returns c =
    aim_line c.args.by.now.fits c.args.entry c.place_of-k.ensures c.if-n-k.false
    (sym c.has_task.ensures ∙ c.if-not-has_task.false)
