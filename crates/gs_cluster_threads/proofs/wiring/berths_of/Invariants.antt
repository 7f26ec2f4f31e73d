use Rattle.gs_cluster_threads.proofs.Joining.{Berthing}
use Rattle.gs_cluster_threads.proofs.wiring.berths_of.Given as goal

abbrev pub invariant-loop-seed : goal.invariant-loop-seed
invariant-loop-seed g l = Berthing g.N.Naming.names l.fn.seeds.items l.seed-iterator.rest.items l.berths.items
