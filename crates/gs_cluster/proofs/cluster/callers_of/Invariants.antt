use Rattle.std.specs.Prelude.{◌≡◌}
use Rattle.gs_cluster.specs.declared.caller.Caller.{Caller}
use Rattle.gs_cluster.proofs.Moving.{Going}
use Rattle.gs_cluster.proofs.cluster.callers_of.Given as goal

abbrev pub invariant-loop-node : goal.invariant-loop-node
invariant-loop-node g l = Going (λ (c : Caller _ _ _). c.node) (λ (c : Caller _ _ _). c.moment ≡ record { 0 = 0 }) l.fn.nodes.items l.node-iterator.rest.items l.callers.items
