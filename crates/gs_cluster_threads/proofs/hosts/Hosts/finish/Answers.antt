use Rattle.std.proofs.Common.{arith}
use Rattle.std.specs.Prelude.{vec_len}
use Rattle.gs_cluster_history.specs.Setting.{all_ids}
use Rattle.gs_cluster_threads.proofs.Hosting.{ends_so, none_ended, one_ended}
use Rattle.gs_cluster_threads.proofs.hosts.Hosts.finish.Goals as goal

pub loop-handle-init : goal.loop-handle-init
loop-handle-init g c =
    let room = c.in-Ok.ensures.ok in
    let left = c.into_iter-handle-iterator.ensures.into_iter_gives.1 in
    none_ended c.args.callers.items (vec_len c.args.self.handles) c.reserve.new.self.items (vec_len c.reserve.new.self) c.into_iter-handle-iterator.result.rest.len _
    c.reserve.ensures.items (omega arith) left (omega arith)

pub loop-handle-preserved : goal.loop-handle-preserved
loop-handle-preserved g c =
    one_ended c.args.callers.items (vec_len c.args.self.handles) c.loop-handle.nodes.items c.push_reserved.new.self.items c.join.result (vec_len c.loop-handle.nodes) (vec_len c.push_reserved.new.self)
    c.loop-handle.handle-iterator.rest.len c.next.new.self.rest.len _ _ c.loop-handle.invariant c.push_reserved.ensures.items c.push_reserved.ensures.len c.in-Some.ensures.steps.1 c.push_reserved.ensures.capacity

pub returns : goal.returns
returns g c =
    ends_so g.C.Core.Does (g.C.Core.Starts g.N.Plan.setting) (all_ids g.N.Plan.setting) c.args.callers.items c.loop-handle.nodes.items (vec_len c.args.self.handles) (vec_len c.args.callers) (vec_len c.loop-handle.nodes) _ _ c.loop-handle.invariant
    c.in-None.ensures.steps.0 c.args.callers.ok.0 c.gather.result c.gather.ensures
