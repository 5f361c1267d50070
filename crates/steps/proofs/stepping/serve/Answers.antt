-- By who has the tick: nobody, a guest that idles it away, or a task.
use Rattle.steps.specs.Step.{nobody, idles, works}
use Rattle.steps.proofs.Parts.{has_left_lem, has_run_lem}
use Rattle.steps.proofs.stepping.serve.Goals as goal

pub returns-then-n-k : goal.returns-then-n-k
returns-then-n-k c = nobody c.holder-k.ensures c.if-n-k.true

pub overflow_sub-left : goal.overflow_sub-left
overflow_sub-left c = has_left_lem c.args.left.now _ _ c.holder-k.ensures c.if-n-k.false

pub returns-then-many-t : goal.returns-then-many-t
returns-then-many-t c = idles c.holder-k.ensures c.if-n-k.false c.worker-t.ensures c.if-many-t.true

pub overflow_sub-rest : goal.overflow_sub-rest
overflow_sub-rest c = has_run_lem c.args.rest.now c.holder-k.result _ _ c.worker-t.ensures c.if-many-t.false

pub returns : goal.returns
returns c = works c.holder-k.ensures c.if-n-k.false c.worker-t.ensures c.if-many-t.false
