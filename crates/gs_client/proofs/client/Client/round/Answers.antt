use Rattle.std.proofs.Common.{◌≡◌, rules, Err, refl}
use Rattle.gs_base.specs.declared.refusal.Refusal.TheVariants.{NoReplica}
use Rattle.gs_client_dialogue.proofs.Talks.{follows_both, follows_none}
use Rattle.gs_client.specs.Sends.{Sends}
use Rattle.gs_client.specs.Looking.{members_call}
use Rattle.gs_client.proofs.client.Client.round.Goals as goal

pub returns-in_err-given : goal.returns-in_err-given
returns-in_err-given g c =
    let e : c.from_residual.result ≡ Err c.in_err-given.field-0.0 = search rules in
    rw e (follows_none (Sends g.L.Link.Carries) (members_call c.args.located.now c.args.asked c.args.located.now.view.members NoReplica) _ _ _ _ c.in_err-given.ensures)

pub returns : goal.returns
returns g c =
    follows_both (Sends g.L.Link.Carries) (members_call c.args.located.now c.args.asked c.args.located.now.view.members NoReplica) _ _ _ _ _ _ c.in_ok-given.ensures (refl, refl)
