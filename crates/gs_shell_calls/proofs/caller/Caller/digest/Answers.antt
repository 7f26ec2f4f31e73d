use Rattle.std.proofs.Common.{◌≡◌, Err, rules}
use Rattle.gs_client.specs.Sends.{Sends}
use Rattle.gs_path.specs.Rules.{parse_hidden}
use Rattle.gs_shell_calls.proofs.Talking.{on_answered, on_located, opens_none, uses_file}
use Rattle.gs_shell_calls.specs.Asked.{digest_of, given_digest, with_file}
use Rattle.gs_shell_calls.specs.declared.answer.Answer.TheVariants as answers
use Rattle.gs_shell_calls.proofs.caller.Caller.digest.Goals as goal

pub returns-in_err-file : goal.returns-in_err-file
returns-in_err-file g c =
    let e : c.from_residual-in_err-file.result ≡ Err c.in_err-file.field-0.0 = search rules in
    rw e (on_answered (Sends g.L.Link.Carries) (parse_hidden c.args.path.now) (with_file (digest_of c.args.chunk c.args.block)) given_digest _ _ c.in_ok-path.path (Err c.in_err-file.field-0.0) c.in_ok-path.ensures.answer
    (opens_none g.L.Link.Carries (digest_of c.args.chunk c.args.block) c.in_ok-path.path _ _ c.in_err-file.field-0.0 c.in_err-file.ensures))

pub returns : goal.returns
returns g c =
    rw c.digest-2.ensures (on_located (Sends g.L.Link.Carries) (parse_hidden c.args.path.now) (with_file (digest_of c.args.chunk c.args.block)) answers.Digest _ _ c.in_ok-path.path _ c.digest.new.self c.in_ok-path.ensures.answer
    (uses_file g.L.Link.Carries (λ size. digest_of c.args.chunk c.args.block) c.in_ok-path.path _ _ _ c.in_ok-file.file _ c.in_ok-file.ensures c.digest.ensures.asks))
