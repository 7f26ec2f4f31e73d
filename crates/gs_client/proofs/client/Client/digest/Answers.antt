use Rattle.std.proofs.Common.{◌≡◌, rules, Ok, Err, Some, refl}
use Rattle.gs_client_dialogue.specs.Dialogues.{Say}
use Rattle.gs_client_dialogue.proofs.Talks.{follows_both, follows_none}
use Rattle.gs_msg.specs.declared.chunk.Asked.TheVariants as asks
use Rattle.gs_client.proofs.Steps.{says_err, says_ok}
use Rattle.gs_client.specs.Sends.{Sends}
use Rattle.gs_client.specs.Replies.{digest_in}
use Rattle.gs_client.specs.Looking.{known_call, fetch_call}
use Rattle.gs_client.proofs.client.Client.digest.Goals as goal

pub returns-in_err-known : goal.returns-in_err-known
returns-in_err-known g c =
    let e : c.from_residual.result ≡ Err c.in_err-known.field-0.0 = search rules in
    rw e (follows_none (Sends g.L.Link.Carries) (known_call c.args.file.now.path.now c.args.file.now.opened) _ _ _ _ c.in_err-known.ensures.is)

pub returns-in_err-given : goal.returns-in_err-given
returns-in_err-given g c =
    let e : c.from_residual-in_err-given.result ≡ Err c.in_err-given.field-0.0 = search rules in
    rw e (follows_both (Sends g.L.Link.Carries) (known_call c.args.file.now.path.now c.args.file.now.opened) _ _ _ _ _ _ c.in_ok-known.ensures.is
    (follows_none (Sends g.L.Link.Carries) (fetch_call c.args.file.now.path.now c.args.file.now.known c.args.index (asks.Digest c.args.block)) _ _ _ _ c.in_err-given.ensures))

pub returns-in_err-digest : goal.returns-in_err-digest
returns-in_err-digest g c =
    let e : c.from_residual-in_err-digest.result ≡ Err c.in_err-digest.field-0.0 = search rules in
    rw e (follows_both (Sends g.L.Link.Carries) (known_call c.args.file.now.path.now c.args.file.now.opened) _ _ _ _ _ _ c.in_ok-known.ensures.is
    (follows_both (Sends g.L.Link.Carries) (fetch_call c.args.file.now.path.now c.args.file.now.known c.args.index (asks.Digest c.args.block)) _ _ _ _ _ _ c.in_ok-given.ensures
    (says_err (Sends g.L.Link.Carries) (digest_in c.in_ok-given.given) (λ digest. Say (Ok (digest, Some c.in_ok-given.located))) _ _ c.in_err-digest.ensures)))

pub returns : goal.returns
returns g c =
    follows_both (Sends g.L.Link.Carries) (known_call c.args.file.now.path.now c.args.file.now.opened) _ _ _ _ _ _ c.in_ok-known.ensures.is
    (follows_both (Sends g.L.Link.Carries) (fetch_call c.args.file.now.path.now c.args.file.now.known c.args.index (asks.Digest c.args.block)) _ _ _ _ _ _ c.in_ok-given.ensures
    (says_ok (Sends g.L.Link.Carries) (digest_in c.in_ok-given.given) (λ digest. Say (Ok (digest, Some c.in_ok-given.located))) _ _ _ _ c.in_ok-digest.ensures (refl, refl)))
