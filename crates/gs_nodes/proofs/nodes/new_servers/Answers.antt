use Rattle.std.proofs.Common.{◌∙◌, ◌++◌, ◌∷◌, [], ap, sym}
use Rattle.gs_server.specs.Servers as servers
use Rattle.gs_nodes.proofs.Starting.{found_number, one_more_server}
use Rattle.gs_nodes.proofs.nodes.new_servers.Goals as goal

pub loop-number-preserved : goal.loop-number-preserved
loop-number-preserved c =
    let config = c.args.config in
    c.in_ok-push.ensures.items
    ∙ ap (λ s. c.loop-number.servers.items ++ s ∷ []) (c.in_ok-new.ensures ∙ ap (λ n. servers.new n config.block config.chunk) (found_number c.new.result _ _ c.new.ensures.number c.unwrap-id.ensures))
    ∙ ap (λ ss. ss ++ servers.new c.loop-number.number config.block config.chunk ∷ []) c.loop-number.invariant ∙ sym (one_more_server config c.loop-number.number)
