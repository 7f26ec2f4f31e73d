use Rattle.std.proofs.Common.{ap, arith, length, subst, sym, ◌∙◌}
use Rattle.gs_msg.specs.declared.node.NodeId.{NodeId}
use Rattle.gs_cluster_history.specs.Histories.{Among}
use Rattle.gs_cluster_history.specs.Setting.{all_ids}
use Rattle.gs_cluster_node.specs.Nodes.{HaveSentNothing, leads_of}
use Rattle.gs_cluster_threads.specs.inner.Berths.{begun}
use Rattle.gs_cluster_threads.proofs.Joining.{all_done, at_front, ear_is, none_begun, one_begun, row_taken}
use Rattle.gs_cluster_threads.proofs.wiring.nodes_of.Goals as goal

pub loop-berth-init : goal.loop-berth-init
loop-berth-init g c =
    none_begun (g.C.Core.Starts g.N.Plan.setting) (all_ids g.N.Plan.setting) c.args.berths.items _ c.args.rows.items c.new-nodes.result.items
    c.into_iter-berth-iterator.ensures.into_iter_gives.0 c.new-nodes.ensures.items (omega arith) c.requires.rows c.requires.berths

pub unreachable-requires : goal.unreachable-requires
unreachable-requires g c =
    let front = ap length c.in-Some.ensures.steps.0 in
    let long = c.loop-berth.invariant.long in
    let none = c.in_default.ensures.cases.0 in
    let all = c.loop-berth.rows.ok.0 in
    omega arith

pub new-node-requires-clause-starts : goal.new-node-requires-clause-starts
new-node-requires-clause-starts g c =
    let fits = c.loop-berth.invariant.fits c.in-Some.berth (at_front _ _ _ c.in-Some.ensures.steps.0) in
    subst (λ (n : NodeId). g.C.Core.Starts g.N.Plan.setting n c.in-Some.berth.core c.in-Some.berth.turn.sent.items) (sym c.me-me.ensures) fits.starts

pub new-node-requires-clause-mine : goal.new-node-requires-clause-mine
new-node-requires-clause-mine g c =
    let fits = c.loop-berth.invariant.fits c.in-Some.berth (at_front _ _ _ c.in-Some.ensures.steps.0) in
    subst (λ (n : NodeId). Among (all_ids g.N.Plan.setting) n) (sym c.me-me.ensures) fits.mine

pub new-node-requires-clause-leads : goal.new-node-requires-clause-leads
new-node-requires-clause-leads g c =
    ap leads_of c.into_ways-ways.ensures
    ∙ (row_taken (g.C.Core.Starts g.N.Plan.setting) (all_ids g.N.Plan.setting) c.args.berths.items c.loop-berth.berth-iterator.rest.items c.loop-berth.rows.items c.pop.new.self.items c.in-Some-pop.row c.loop-berth.nodes.items
    c.loop-berth.invariant c.in-Some-pop.ensures.items).0

pub new-node-requires-clause-silent : goal.new-node-requires-clause-silent
new-node-requires-clause-silent g c =
    subst HaveSentNothing (sym c.into_ways-ways.ensures)
    (row_taken (g.C.Core.Starts g.N.Plan.setting) (all_ids g.N.Plan.setting) c.args.berths.items c.loop-berth.berth-iterator.rest.items c.loop-berth.rows.items c.pop.new.self.items c.in-Some-pop.row c.loop-berth.nodes.items
    c.loop-berth.invariant c.in-Some-pop.ensures.items).1

pub new-node-requires-clause-ear : goal.new-node-requires-clause-ear
new-node-requires-clause-ear g c =
    let fits = c.loop-berth.invariant.fits c.in-Some.berth (at_front _ _ _ c.in-Some.ensures.steps.0) in
    ear_is c.in-Some.berth.ear c.me-me.result c.me-me.ensures fits.nothing

pub new-node-requires-clause-whole : goal.new-node-requires-clause-whole
new-node-requires-clause-whole g c =
    let fits = c.loop-berth.invariant.fits c.in-Some.berth (at_front _ _ _ c.in-Some.ensures.steps.0) in
    fits.whole

pub loop-berth-preserved : goal.loop-berth-preserved
loop-berth-preserved g c =
    one_begun (g.C.Core.Starts g.N.Plan.setting) (all_ids g.N.Plan.setting) c.args.berths.items c.loop-berth.berth-iterator.rest.items c.next.new.self.rest.items c.in-Some.berth c.loop-berth.rows.items c.pop.new.self.items
    c.in-Some-pop.row c.loop-berth.nodes.items c.push.new.self.items c.new-node.result c.me-me.result c.loop-berth.invariant c.in-Some.ensures.steps.0 c.in-Some-pop.ensures.items c.new-node.ensures c.me-me.ensures c.in_ok-push.ensures.items

pub returns : goal.returns
returns g c = all_done begun c.loop-berth.nodes.items c.loop-berth.berth-iterator.rest.items c.args.berths.items (let none = c.in-None.ensures.steps.0 in omega arith) c.loop-berth.invariant.begin
