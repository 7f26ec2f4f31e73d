use Rattle.std.specs.Prelude.{◌≡◌}
use Rattle.gs_nodes.specs.Nodes.{new_clients}
use Rattle.gs_nodes.proofs.nodes.new_clients.Given as goal

abbrev pub invariant-loop-before : goal.invariant-loop-before
invariant-loop-before l = l.clients.items ≡ new_clients l.before
