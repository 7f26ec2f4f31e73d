use Rattle.std.proofs.Common.{arith}
use Rattle.gs_cluster_threads.specs.inner.Berths.{berthed}
use Rattle.gs_cluster_threads.proofs.Joining.{all_done, at_front, one_berthed}
use Rattle.gs_cluster_threads.proofs.wiring.berths_of.Goals as goal

pub new-ear-requires : goal.new-ear-requires
new-ear-requires g c = c.loop-seed.invariant.named c.in-Some.seed (at_front _ _ _ c.in-Some.ensures.steps.0)

pub loop-seed-preserved : goal.loop-seed-preserved
loop-seed-preserved g c =
    one_berthed g.N.Naming.names c.args.seeds.items c.loop-seed.seed-iterator.rest.items c.next.new.self.rest.items c.in-Some.seed c.loop-seed.berths.items c.push.new.self.items c.new-ear.result
    c.loop-seed.invariant c.in-Some.ensures.steps.0 c.new-ear.ensures c.in_ok-push.ensures.items

pub returns : goal.returns
returns g c = all_done (berthed 1024) c.loop-seed.berths.items c.loop-seed.seed-iterator.rest.items c.args.seeds.items (let none = c.in-None.ensures.steps.0 in omega arith) c.loop-seed.invariant.whole
