use Rattle.std.proofs.Common.{◌∙◌, ℕ, [], ◌∷◌, ◌++◌, ap}
use Rattle.gs_msg.specs.declared.body.Body.TheVariants as bodies
use Rattle.gs_msg.specs.declared.message.Message.{Message}
use Rattle.gs_msg.specs.declared.node.NodeId.TheVariants as nodes
use Rattle.gs_master_spec.specs.State.{post}
use Rattle.gs_master_state.proofs.Mapping.{counted_next, found_number}
use Rattle.gs_master_guard.proofs.telling.tell_all.Goals as goal

pub loop-number-preserved : goal.loop-number-preserved
loop-number-preserved c =
    let told : ℕ → Message = λ server. post (nodes.Server server) (bodies.Epoch c.args.epoch c.args.end) in
    c.in_ok-push.ensures.items ∙ ap (λ m. c.loop-number.sent.items ++ m ∷ []) (c.post.ensures ∙ ap told (found_number c.new.result _ _ c.new.ensures.number c.unwrap-server.ensures))
    ∙ counted_next told c.loop-number.sent.items c.loop-number.number c.loop-number.invariant
