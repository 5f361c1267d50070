-- `response::met::first_unmet` meets its contract: the tasks passed are met, and the search for the next may begin where
-- that for the last ended. Assumes nothing.
use Rattle.std.specs.Prelude.{is_some}
use mathlib.Core.Path.{sym, ap}
use Prim.Native.Nat.{◌+◌}
use Rattle.lists.specs.Places.{nth}
use Rattle.response.specs.Columns.{system_at}
use Rattle.response.proofs.GuestLaws.{take_grows}
use Rattle.response.proofs.MetLaws.{begins_fresh, begins_below, finds_none, finds_at, met_none, met_next, met_ends}
use Rattle.response.proofs.met.first_unmet.Goals as goal

pub loop-i-init : goal.loop-i-init
loop-i-init c = (
  met_none (system_at _ _ _ _ c.args.tasks.now _) _ _ _ c.requires.above_in.1,
  λ h. begins_fresh (system_at _ _ _ _ c.args.tasks.now _) (take_grows c.args.servers.now c.args.k) _
      (c.requires.by_index _ h) (c.none-edges.ensures _ _ _ _ _),
)

pub returns-in-None : goal.returns-in-None
returns-in-None c =
    met_ends c.loop-i.invariant.0
    (λ h. sym (ap is_some
    (finds_none (system_at _ _ _ _ c.args.tasks.now _) _ (nth c.args.tasks.now.deadline c.loop-i.i) c.in-None.ensures)))

pub loop-i-preserved : goal.loop-i-preserved
loop-i-preserved c =
    let i = c.loop-i.i in
    let h = c.loop-i-test.true in
    let found = c.in-Some.ensures in
    let most = nth c.args.tasks.now.deadline i in (
      met_next c.loop-i.invariant.0 h (sym (ap is_some (finds_at (system_at _ _ _ _ c.args.tasks.now _) i most found))),
      λ b. begins_below (system_at _ _ _ _ c.args.tasks.now _) i most found (take_grows c.args.servers.now c.args.k)
          (c.requires.each_short.1.asks i h) (c.requires.by_index i h) (c.requires.by_index (i + 1) b),
    )
