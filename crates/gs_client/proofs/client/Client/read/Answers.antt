use Rattle.std.proofs.Common.{◌≡◌, rules, Err}
use Rattle.gs_client_dialogue.proofs.Talks.{follows_both, follows_none}
use Rattle.gs_client.specs.Sends.{Sends}
use Rattle.gs_client.specs.Looking.{known_call}
use Rattle.gs_client.specs.Reading.{end_call}
use Rattle.gs_client.proofs.client.Client.read.Goals as goal

pub returns-in_err-chunks : goal.returns-in_err-chunks
returns-in_err-chunks g c =
    let e : c.from_residual.result ≡ Err c.in_err-chunks.field-0.0 = search rules in
    rw e (follows_none (Sends g.L.Link.Carries) (known_call c.args.file.now.path.now c.args.file.now.opened) _ _ _ _ c.in_err-chunks.ensures.is)

pub returns-in_err-end : goal.returns-in_err-end
returns-in_err-end g c =
    let e : c.from_residual-in_err-end.result ≡ Err c.in_err-end.field-0.0 = search rules in
    let ended = rw c.chunk-size.ensures.is at c.in_err-end.ensures.is in
    rw e (follows_both (Sends g.L.Link.Carries) (known_call c.args.file.now.path.now c.args.file.now.opened) _ _ _ _ _ _ c.in_ok-chunks.ensures.is
    (follows_none (Sends g.L.Link.Carries) (end_call c.args.self.now.chunk c.args.file.now.path.now c.args.file.now.known c.in_ok-chunks.chunks c.args.range.offset c.args.range.many) _ _ _ _ ended))

pub returns : goal.returns
returns g c =
    let ended = rw c.chunk-size.ensures.is at c.in_ok-end.ensures.is in
    let read = rw c.chunk-size.ensures.is at c.pieces.ensures in
    follows_both (Sends g.L.Link.Carries) (known_call c.args.file.now.path.now c.args.file.now.opened) _ _ _ _ _ _ c.in_ok-chunks.ensures.is
    (follows_both (Sends g.L.Link.Carries) (end_call c.args.self.now.chunk c.args.file.now.path.now c.args.file.now.known c.in_ok-chunks.chunks c.args.range.offset c.args.range.many) _ _ _ _ _ _ ended read)
