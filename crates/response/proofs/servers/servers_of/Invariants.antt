-- `response::servers::servers_of` meets its contract: the places passed hold their servers. Assumes nothing.
use Rattle.response.specs.Columns.{ServersOf}
use Rattle.response.proofs.servers.servers_of.Given as goal

abbrev pub invariant-loop-k : goal.invariant-loop-k
invariant-loop-k g l = ServersOf (g.P.AsPlan.plan l.plan).guests l.k l.servers
