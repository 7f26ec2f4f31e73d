use Rattle.std.proofs.Common.{◌≡◌, ◌++◌}
use Rattle.gs_msg.specs.declared.node.NodeId.TheVariants as nodes
use Rattle.gs_master_spec.specs.State.{post, to_each}
use Rattle.gs_master_plan.proofs.message.to_each.Given as goal

abbrev pub invariant-loop-server : goal.invariant-loop-server
invariant-loop-server l = l.messages.items ++ to_each l.server-iterator (λ server. post (nodes.Server server) l.body) ≡ to_each l.fn.servers (λ server. post (nodes.Server server) l.body)
