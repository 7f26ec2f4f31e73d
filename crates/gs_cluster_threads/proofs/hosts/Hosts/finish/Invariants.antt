use Rattle.std.specs.Prelude.{vec_capacity, vec_len}
use Rattle.gs_cluster_threads.proofs.Hosting.{Ending}
use Rattle.gs_cluster_threads.proofs.hosts.Hosts.finish.Given as goal

abbrev pub invariant-loop-handle : goal.invariant-loop-handle
invariant-loop-handle g l = Ending l.fn.callers.items (vec_len l.fn.self.handles) l.nodes.items (vec_len l.nodes) l.handle-iterator.rest.len (vec_capacity l.nodes)
