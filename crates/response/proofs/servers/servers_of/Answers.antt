-- `response::servers::servers_of` meets its contract: the places passed hold their servers. Assumes nothing.
use native.Mathlib.Omega.{arith}
use Rattle.response.proofs.ServersLaws.{servers_next}
use Rattle.response.proofs.servers.servers_of.Goals as goal

pub loop-k-preserved : goal.loop-k-preserved
loop-k-preserved g c =
    servers_next c.loop-k.k (omega arith) c.guest-g.ensures c.jitter_for.ensures c.loop-k.invariant
