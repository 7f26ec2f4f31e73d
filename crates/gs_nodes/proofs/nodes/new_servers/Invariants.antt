use Rattle.std.specs.Prelude.{◌≡◌}
use Rattle.gs_nodes.specs.Nodes.{silent_servers}
use Rattle.gs_nodes.proofs.nodes.new_servers.Given as goal

abbrev pub invariant-loop-number : goal.invariant-loop-number
invariant-loop-number l = l.servers.items ≡ silent_servers l.config l.number
