use Rattle.std.proofs.Common.{◌≡◌, ◌+◌, ◌≤◌}
use Rattle.std.specs.Prelude.{vec_capacity, vec_len}
use Rattle.gs_cluster_threads.proofs.hosts.host_all.Given as goal

abbrev pub invariant-loop-node : goal.invariant-loop-node
invariant-loop-node g l =
    (vec_len l.handles + l.node-iterator.rest.len ≡ vec_len l.fn.handles + vec_len l.fn.nodes) × (vec_len l.handles + l.node-iterator.rest.len ≤ vec_capacity l.handles)
