-- The servers of a plan. Assumes nothing.
use mathlib.Core.Path.{◌≡◌}
use mathlib.Core.Bool.{Bool, true, false}
use mathlib.Core.List.{List}
use Prim.Native.Nat.{ℕ, ◌+◌, ◌-◌, ◌≤◌, ◌<◌}
use native.Mathlib.Omega.{arith}
use lib.ListN.{set}
use Rattle.lists.specs.Choice.{pick}
use Rattle.plan.specs.Records.{guest_at}
use Rattle.plan.specs.Server.{is_deferrable}
use Rattle.plan.specs.declared.Guest.{Guest}
use Rattle.response.specs.declared.servers.Servers.{Servers}
use Rattle.response.specs.Columns.{ServersOf}
use Rattle.response.specs.Interference.{jitter}
use Rattle.plan.proofs.Filled.{filled_next}

-- what is put off is at most the whole of it
pick_most : (b : Bool) (x : ℕ) → pick b x 0 ≤ x
pick_most true x = omega arith
pick_most false x = omega arith

-- no jitter is more than the period
pub jitter_most : (g : Guest) → jitter g ≤ g.period
unfolding jitter
jitter_most g = omega (arith, pick_most (is_deferrable g) (g.period - g.capacity))

-- a loop's turn: one guest's server more is written, its jitter as the code works it out
pub servers_next : {gs : List Guest} {s : Servers} (k : ℕ) → k < 16 → {g : Guest} → g ≡ guest_at gs k → {late : ℕ}
    → late ≡ pick (is_deferrable g) (g.period - g.capacity) 0 → ServersOf gs k s
    → ServersOf gs (k + 1) (record {
      capacities = set s.capacities k g.capacity;
      periods = set s.periods k g.period;
      jitters = set s.jitters k late;
    })
unfolding jitter
servers_next k l e q f = rw (q, e) record {
  capacities = filled_next _ k l f.capacities;
  periods = filled_next _ k l f.periods;
  jitters = filled_next _ k l f.jitters;
}
