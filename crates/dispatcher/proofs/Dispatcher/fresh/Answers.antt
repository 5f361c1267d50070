-- By the records' refusal.
use Rattle.dispatcher.proofs.Fresh.{start_fresh, start_refused}
use Rattle.dispatcher.proofs.Dispatcher.fresh.Goals as goal

pub returns-in-Err : goal.returns-in-Err
returns-in-Err c = rw (c.idle_of.ensures, c.blank_plan.ensures) (start_refused _ c.in-Err.ensures)

pub returns : goal.returns
returns c = rw c.idle_of-2.ensures (start_fresh _ c.in_default.ensures)
