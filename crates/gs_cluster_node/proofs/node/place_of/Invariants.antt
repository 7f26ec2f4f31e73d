use Rattle.std.proofs.Common.{◌≡◌, ◌<◌, ℕ, Some}
use Rattle.std.specs.Prelude.{slice_get}
use Rattle.gs_cluster_node.specs.Nodes.{leads_of}
use Rattle.gs_cluster_node.proofs.node.place_of.Given as goal

abbrev pub invariant-loop-at : goal.invariant-loop-at
invariant-loop-at g l = (i : ℕ) → i < l.at → slice_get (leads_of l.fn.ways.items) i ≡ Some l.fn.me → ⊥
