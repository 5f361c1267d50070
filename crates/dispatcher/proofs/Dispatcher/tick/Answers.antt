-- A tick is a run of one.
use Rattle.std.proofs.Common.{◌∙◌}
use Rattle.dispatcher.proofs.Entries.{tick_of_run, tick_told}
use Rattle.dispatcher.proofs.Dispatcher.tick.Goals as goal

pub returns : goal.returns
returns c =
    rw (c.unwrap_or.ensures, c.err.ensures.value, c.unwrap_or-2.ensures)
    (tick_told c.run_in-ran.result _ ∙ tick_of_run c.args.self c.run_in-ran.ensures.ran)
