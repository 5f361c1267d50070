-- `order::placing::propose_in` meets its contract: what becomes of the guest is put in its row. Assumes nothing.
use Rattle.rows.proofs.Words.{plan_put}
use Rattle.order.proofs.placing.propose_in.Goals as goal

pub returns-in-Ok : goal.returns-in-Ok
returns-in-Ok c =
    let a = c.args in
    rw (plan_put a.count a.rows.now c.in-Ok.k c.row_of.result c.in-Ok.ensures.0 c.told-rows c.row_of.ensures)
    c.in-Ok.ensures.1
