use Rattle.std.proofs.Common.{◌≡◌, rules, Err}
use Rattle.gs_client.proofs.file.OpenFile+Reading.read.Goals as goal

pub returns-in_err-bytes-clause-asks : goal.returns-in_err-bytes-clause-asks
returns-in_err-bytes-clause-asks g c =
    let e : c.from_residual.result ≡ Err c.in_err-bytes.field-0.0 = search rules in
    rw (e, ← c.self.view_is) c.in_err-bytes.ensures

pub returns-clause-asks : goal.returns-clause-asks
returns-clause-asks g c = rw (← c.self.view_is) c.in_ok-bytes.ensures
