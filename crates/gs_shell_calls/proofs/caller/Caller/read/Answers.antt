use Rattle.std.proofs.Common.{◌≡◌, Err, rules}
use Rattle.gs_client.specs.Sends.{Sends}
use Rattle.gs_path.specs.Rules.{parse_hidden}
use Rattle.gs_shell_calls.proofs.Talking.{on_answered, on_located, opens_none, uses_file}
use Rattle.gs_shell_calls.specs.Asked.{read_of, given_bytes, with_file}
use Rattle.gs_shell_calls.specs.declared.answer.Answer.TheVariants as answers
use Rattle.gs_shell_calls.proofs.caller.Caller.read.Goals as goal

pub returns-in_err-file : goal.returns-in_err-file
returns-in_err-file g c =
    let e : c.from_residual-in_err-file.result ≡ Err c.in_err-file.field-0.0 = search rules in
    rw e (on_answered (Sends g.L.Link.Carries) (parse_hidden c.args.path.now) (with_file (read_of c.args.self.now.client.chunk c.args.offset c.args.length)) given_bytes _ _ c.in_ok-path.path (Err c.in_err-file.field-0.0) c.in_ok-path.ensures.answer
    (opens_none g.L.Link.Carries (read_of c.args.self.now.client.chunk c.args.offset c.args.length) c.in_ok-path.path _ _ c.in_err-file.field-0.0 c.in_err-file.ensures))

pub returns : goal.returns
returns g c =
    rw c.bytes.ensures (on_located (Sends g.L.Link.Carries) (parse_hidden c.args.path.now) (with_file (read_of c.args.self.now.client.chunk c.args.offset c.args.length)) answers.Bytes _ _ c.in_ok-path.path _ c.read.new.self c.in_ok-path.ensures.answer
    (uses_file g.L.Link.Carries (λ size. read_of size c.args.offset c.args.length) c.in_ok-path.path _ _ _ c.in_ok-file.file _ c.in_ok-file.ensures c.read.ensures.asks))
