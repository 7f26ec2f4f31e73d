use Rattle.std.proofs.Common.{◌≡◌, map}
use Rattle.gs_base.specs.Members.{count_from}
use Rattle.gs_msg.specs.declared.body.Body.TheVariants as bodies
use Rattle.gs_msg.specs.declared.node.NodeId.TheVariants as nodes
use Rattle.gs_master_spec.specs.State.{post}
use Rattle.gs_master_guard.proofs.telling.tell_all.Given as goal

abbrev pub invariant-loop-number : goal.invariant-loop-number
invariant-loop-number l = l.sent.items ≡ map (λ server. post (nodes.Server server) (bodies.Epoch l.epoch l.end)) (count_from 0 l.number)
