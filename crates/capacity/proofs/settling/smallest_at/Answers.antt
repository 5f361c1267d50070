-- `capacity::settling::smallest_at` meets its contract: nothing works under an unfit guest, else what the search off
-- the columns of its tasks finds. Assumes nothing.
use mathlib.Core.Path.{sym, ◌∙◌}
use native.Mathlib.Omega.{arith}
use Rattle.response.specs.Columns.{above_of}
use Rattle.response.proofs.ReadyLaws.{filled_columns, seated_server, seated_above}
use Rattle.capacity.proofs.SearchLaws.{works_off}
use Rattle.capacity.proofs.Narrowing.{above_unfit, above_fitted}
use Rattle.capacity.proofs.settling.smallest_at.Goals as goal

pub returns-then-not-all_fitted : goal.returns-then-not-all_fitted
returns-then-not-all_fitted c = above_unfit _ _ (sym c.all_fitted.ensures ∙ c.if-not-all_fitted.true)

pub settled-requires : goal.settled-requires
settled-requires c =
    let s = c.requires.0 in
    let server = seated_server _ _ _ s in
    let t = c.tasks_of-tasks.ensures in
    record {
      above = seated_above _ _ _ s;
      some = omega (arith, server.some, server.within);
      short = server.short;
      many = omega (arith, t.count, c.requires.1);
      tasks = filled_columns c.args.g.now s.tasks t;
    }

pub returns : goal.returns
returns c =
    above_fitted _ _ c.args.g.now.period (sym c.all_fitted.ensures ∙ c.if-not-all_fitted.false)
    (works_off (above_of _ _) c.args.g.now c.tasks_of-tasks.ensures) c.settled.ensures
