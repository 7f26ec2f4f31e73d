use Rattle.std.proofs.Common.{◌≡◌, rules, Err}
use Rattle.gs_client_dialogue.proofs.Talks.{follows_both, follows_none}
use Rattle.gs_client.specs.Sends.{Sends}
use Rattle.gs_client.specs.Looking.{find_call, round_call}
use Rattle.gs_client.proofs.client.Client.anew.Goals as goal

pub returns-in_err-located : goal.returns-in_err-located
returns-in_err-located g c =
    let e : c.from_residual.result ≡ Err c.in_err-located.field-0.0 = search rules in
    rw e (follows_none (Sends g.L.Link.Carries) (find_call c.args.wanted.path.now c.args.wanted.index) (λ l. round_call l c.args.wanted.asked) _ _ _ c.in_err-located.ensures)

pub returns : goal.returns
returns g c =
    follows_both (Sends g.L.Link.Carries) (find_call c.args.wanted.path.now c.args.wanted.index) (λ l. round_call l c.args.wanted.asked) _ _ _ _ _ c.in_ok-located.ensures c.round.ensures
