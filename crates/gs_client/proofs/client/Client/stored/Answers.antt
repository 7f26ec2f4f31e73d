use Rattle.std.proofs.Common.{◌≡◌, rules, Ok, Err, refl}
use Rattle.gs_client_dialogue.specs.Dialogues.{Say}
use Rattle.gs_client_dialogue.proofs.Talks.{follows_both, follows_none}
use Rattle.gs_client.proofs.Steps.{says_err, says_ok}
use Rattle.gs_client.specs.Sends.{Sends}
use Rattle.gs_client.specs.Replies.{bytes_in}
use Rattle.gs_client.specs.Looking.{fetch_call}
use Rattle.gs_client.proofs.client.Client.stored.Goals as goal

pub returns-in_err-given : goal.returns-in_err-given
returns-in_err-given g c =
    let e : c.from_residual.result ≡ Err c.in_err-given.field-0.0 = search rules in
    rw e (follows_none (Sends g.L.Link.Carries) (fetch_call c.args.wanted.path.now c.args.known c.args.wanted.index c.args.wanted.asked) _ _ _ _ c.in_err-given.ensures)

pub returns-in_err-bytes : goal.returns-in_err-bytes
returns-in_err-bytes g c =
    let e : c.from_residual-in_err-bytes.result ≡ Err c.in_err-bytes.field-0.0 = search rules in
    rw e (follows_both (Sends g.L.Link.Carries) (fetch_call c.args.wanted.path.now c.args.known c.args.wanted.index c.args.wanted.asked) _ _ _ _ _ _ c.in_ok-given.ensures
    (says_err (Sends g.L.Link.Carries) (bytes_in c.args.wanted.asked c.in_ok-given.given) (λ bytes. Say (Ok (bytes, c.in_ok-given.located))) _ _ c.in_err-bytes.ensures))

pub returns : goal.returns
returns g c =
    follows_both (Sends g.L.Link.Carries) (fetch_call c.args.wanted.path.now c.args.known c.args.wanted.index c.args.wanted.asked) _ _ _ _ _ _ c.in_ok-given.ensures
    (says_ok (Sends g.L.Link.Carries) (bytes_in c.args.wanted.asked c.in_ok-given.given) (λ bytes. Say (Ok (bytes, c.in_ok-given.located))) _ _ _ _ c.in_ok-bytes.ensures (refl, refl))
