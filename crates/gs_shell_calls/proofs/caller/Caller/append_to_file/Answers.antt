use Rattle.std.proofs.Common.{◌≡◌, Err, rules}
use Rattle.gs_shell_calls.proofs.Talking.{forgets_edits, opens_none, uses_file}
use Rattle.gs_shell_calls.specs.Asked.{append_to}
use Rattle.gs_shell_calls.proofs.caller.Caller.append_to_file.Goals as goal

pub returns-in_err-file : goal.returns-in_err-file
returns-in_err-file g c =
    let e : c.from_residual.result ≡ Err c.in_err-file.field-0.0 = search rules in
    rw e (opens_none g.L.Link.Carries (append_to c.args.self.now.client.chunk c.args.bytes.now) c.args.path _ _ c.in_err-file.field-0.0 c.in_err-file.ensures)

pub returns : goal.returns
returns g c =
    uses_file g.L.Link.Carries (λ size. append_to size c.args.bytes.now) c.args.path _ _ _ c.in_ok-file.file _ c.in_ok-file.ensures
    (forgets_edits g.L.Link.Carries _ _ _ _ c.append-appended.ensures.asks)
