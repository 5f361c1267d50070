-- `coreshare::placing::cs_tick_in` meets its contract: a run of one in place, the answer told. Assumes nothing.
use Rattle.std.proofs.Common.{ap}
use Rattle.coreshare.specs.Told.{tick_told}
use Rattle.dispatcher.proofs.Entries.{tick_of_run}
use Rattle.coreshare.proofs.placing.cs_tick_in.Goals as goal

pub returns-in-Ok : goal.returns-in-Ok
unfolding tick_told
returns-in-Ok c = rw c.into.ensures (ap tick_told (tick_of_run _ c.in-Ok.ensures.ran))

pub returns-in-Err : goal.returns-in-Err
unfolding tick_told
returns-in-Err c = rw c.into-in-Err.ensures (ap tick_told (tick_of_run _ c.in-Err.ensures.ran))
