use Rattle.std.proofs.Common.{◌∙◌, ◌+◌, ◌++◌, ◌∷◌, [], ap, sym}
use Rattle.gs_client.specs.Nodes.{silent}
use Rattle.gs_nodes.proofs.Starting.{one_more_client}
use Rattle.gs_nodes.proofs.nodes.new_clients.Goals as goal

pub loop-before-preserved : goal.loop-before-preserved
loop-before-preserved c =
    c.in_ok-push.ensures.items ∙ ap (λ n. c.loop-before.clients.items ++ n ∷ []) c.new.ensures ∙ ap (λ ns. ns ++ silent (record { 0 = c.loop-before.before + 1 }) ∷ []) c.loop-before.invariant
    ∙ sym (one_more_client c.loop-before.before)
