use Rattle.std.specs.Prelude.{◌≡◌, ◌++◌, map}
use Rattle.gs_cluster.specs.declared.caller.Caller.{Caller}
use Rattle.gs_cluster.proofs.cluster.nodes_of.Given as goal

abbrev pub invariant-loop-caller : goal.invariant-loop-caller
invariant-loop-caller g l = l.nodes.items ++ map (λ (c : Caller _ _ _). c.node) l.caller-iterator.rest.items ≡ map (λ (c : Caller _ _ _). c.node) l.fn.callers.items
