use Rattle.std.proofs.Common.{◌≡◌, ◌++◌, ◌∷◌}
use Rattle.gs_client.specs.Nodes.{pushes}
use Rattle.gs_client.proofs.node.push_to_each.Given as goal

abbrev pub invariant-loop-next : goal.invariant-loop-next
invariant-loop-next l = l.sent.items ++ pushes l.req (l.to ∷ l.next-iterator) l.fn.bytes ≡ l.initial.sent.items ++ pushes l.req l.fn.members l.fn.bytes
