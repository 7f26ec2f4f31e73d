use Rattle.std.proofs.Common.{◌≡◌, ◌++◌, ◌∷◌, [], true, cond, sym, ap, ◌∙◌}
use Rattle.gs_msg.specs.declared.message.Message.{Message}
use Rattle.gs_server_lease.specs.Leases.{done_of, is_acknowledged, hears, with_told}
use Rattle.gs_server_lease.proofs.lease.PrimaryLease.done_at_once.Goals as goal

pub returns-in_ok-push : goal.returns-in_ok-push
returns-in_ok-push c =
    let me = c.args.me in
    let number = c.args.number in
    let known : is_acknowledged (hears me number c.args.self.now) number ≡ true =
    ap (λ told. is_acknowledged (with_told told c.args.self.now) number) (sym c.told_with.ensures) ∙ sym c.is_acknowledged.ensures ∙ c.if-is_acknowledged.true in
    c.in_ok-push.ensures.items
    ∙ ap (λ (m : Message). c.args.sent.now.items ++ m ∷ []) (c.done_of.ensures number)
    ∙ ap (λ b. c.args.sent.now.items ++ cond b (done_of me (number, c.args.edit.now) ∷ []) []) (sym known)
