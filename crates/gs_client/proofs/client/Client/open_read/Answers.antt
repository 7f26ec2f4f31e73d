use Rattle.std.proofs.Common.{◌≡◌, rules, Err, refl}
use Rattle.gs_client_dialogue.proofs.Talks.{follows_both, follows_none}
use Rattle.gs_client.specs.Sends.{Sends}
use Rattle.gs_client.specs.Looking.{chunks_call}
use Rattle.gs_client.proofs.client.Client.open_read.Goals as goal

pub returns-in_err-chunks : goal.returns-in_err-chunks
returns-in_err-chunks g c =
    let e : c.from_residual.result ≡ Err c.in_err-chunks.field-0.0 = search rules in
    rw e (follows_none (Sends g.L.Link.Carries) (chunks_call c.args.path) _ _ _ _ c.in_err-chunks.ensures.is)

pub returns : goal.returns
returns g c = follows_both (Sends g.L.Link.Carries) (chunks_call c.args.path) _ _ _ _ _ _ c.in_ok-chunks.ensures.is (refl, refl)
