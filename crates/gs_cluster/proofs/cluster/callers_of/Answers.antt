use Rattle.std.proofs.Common.{◌∙◌, refl, sym}
use Rattle.gs_cluster.proofs.Moving.{all_gone, none_gone, one_gone}
use Rattle.gs_cluster.proofs.cluster.callers_of.Goals as goal

pub loop-node-init : goal.loop-node-init
loop-node-init g c =
    none_gone _ _ c.args.nodes.items c.into_iter-node-iterator.result.rest.items _ c.into_iter-node-iterator.ensures.into_iter_gives.0 c.new-callers.ensures.items

pub loop-node-preserved : goal.loop-node-preserved
loop-node-preserved g c =
    one_gone _ _ c.args.nodes.items c.loop-node.node-iterator.rest.items c.next.new.self.rest.items c.in-Some.node c.loop-node.callers.items c.push.new.self.items _
    c.loop-node.invariant c.in-Some.ensures.steps.0 refl refl c.in_ok-push.ensures.items

pub returns-clause-nodes : goal.returns-clause-nodes
returns-clause-nodes g c =
    let rest = c.loop-node.node-iterator.rest in
    all_gone _ _ c.args.nodes.items rest.items c.loop-node.callers.items c.loop-node.invariant (sym rest.ok.0 ∙ c.in-None.ensures.steps.0)

pub returns-clause-moments : goal.returns-clause-moments
returns-clause-moments g c = c.loop-node.invariant.each
