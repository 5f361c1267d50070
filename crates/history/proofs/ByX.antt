-- What is kept of a guest's periods and their x-th ticks. Assumes nothing.
use mathlib.Core.Path.{◌≡◌}
use mathlib.Core.List.{List}
use Prim.Native.Nat.{ℕ, ◌+◌, ◌*◌, ◌≤◌}
use lib.ListN.{length}
use Rattle.plan.specs.declared.Plan.{Plan}
use Rattle.dispatcher.specs.declared.Dispatcher.{Dispatcher}
use Rattle.dispatcher.specs.declared.Answer.{Answer}
use Rattle.history.specs.Share.{share}
use Rattle.dispatcher_laws.proofs.Seen.{cap_of, per_of}
use Rattle.verdict_laws.proofs.Ids.{id_of}
use Rattle.history.proofs.Capacity.{Shares}

module _ (p : Plan) (g x : ℕ) where
  -- After the answers L: each period whose x-th tick is done has had its capacity by then.
  pub record ByX (L : List Answer) (d : Dispatcher) : Type 0 where
    pub shares : Shares p g x L d
    pub had : (k : ℕ) → k * per_of p g + x ≤ length L → share (id_of p g) L (k * per_of p g) x ≡ cap_of p g
