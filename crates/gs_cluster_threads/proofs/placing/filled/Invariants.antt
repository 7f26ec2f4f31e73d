use Rattle.gs_cluster_threads.proofs.Places.{Filling}
use Rattle.gs_cluster_threads.proofs.placing.filled.Given as goal

abbrev pub invariant-loop-place : goal.invariant-loop-place
invariant-loop-place g l = Filling l.fn.places.items l.nodes.items l.place-iterator.rest.items
