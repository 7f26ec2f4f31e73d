use Rattle.std.proofs.Common.{◌∙◌, refl, sym}
use Rattle.gs_cluster.proofs.Moving.{all_taken, none_taken, one_taken}
use Rattle.gs_cluster.specs.declared.caller.Caller.{Caller}
use Rattle.gs_cluster.proofs.cluster.nodes_of.Goals as goal

pub loop-caller-init : goal.loop-caller-init
loop-caller-init g c =
    none_taken (λ (k : Caller _ _ _). k.node) c.args.callers.items c.into_iter-caller-iterator.result.rest.items _ c.into_iter-caller-iterator.ensures.into_iter_gives.0 c.new-nodes.ensures.items

pub loop-caller-preserved : goal.loop-caller-preserved
loop-caller-preserved g c =
    one_taken (λ (k : Caller _ _ _). k.node) c.loop-caller.caller-iterator.rest.items c.next.new.self.rest.items c.in-Some.caller _ c.loop-caller.nodes.items c.push.new.self.items _
    c.loop-caller.invariant c.in-Some.ensures.steps.0 refl c.in_ok-push.ensures.items

pub returns : goal.returns
returns g c =
    let rest = c.loop-caller.caller-iterator.rest in
    all_taken (λ (k : Caller _ _ _). k.node) rest.items _ c.loop-caller.nodes.items c.loop-caller.invariant (sym rest.ok.0 ∙ c.in-None.ensures.steps.0)
