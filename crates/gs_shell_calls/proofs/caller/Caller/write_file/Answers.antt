use Rattle.std.proofs.Common.{◌≡◌, Err, rules}
use Rattle.gs_shell_calls.proofs.Talking.{forgets_edits, opens_none, uses_file}
use Rattle.gs_shell_calls.specs.Asked.{write_to}
use Rattle.gs_shell_calls.proofs.caller.Caller.write_file.Goals as goal

pub returns-in_err-file : goal.returns-in_err-file
returns-in_err-file g c =
    let e : c.from_residual.result ≡ Err c.in_err-file.field-0.0 = search rules in
    rw e (opens_none g.L.Link.Carries (write_to c.args.self.now.client.chunk c.args.offset c.args.bytes.now) c.args.path _ _ c.in_err-file.field-0.0 c.in_err-file.ensures)

pub returns : goal.returns
returns g c =
    uses_file g.L.Link.Carries (λ size. write_to size c.args.offset c.args.bytes.now) c.args.path _ _ _ c.in_ok-file.file _ c.in_ok-file.ensures
    (forgets_edits g.L.Link.Carries _ _ _ _ c.write-written.ensures.asks)
