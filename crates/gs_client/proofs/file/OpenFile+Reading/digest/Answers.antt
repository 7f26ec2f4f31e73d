use Rattle.std.proofs.Common.{◌≡◌, rules, Err}
use Rattle.gs_client.proofs.file.OpenFile+Reading.digest.Goals as goal

pub returns-in_err-digest-clause-asks : goal.returns-in_err-digest-clause-asks
returns-in_err-digest-clause-asks g c =
    let e : c.from_residual.result ≡ Err c.in_err-digest.field-0.0 = search rules in
    rw (e, ← c.self.view_is) c.in_err-digest.ensures

pub returns-clause-asks : goal.returns-clause-asks
returns-clause-asks g c = rw (← c.self.view_is) c.in_ok-digest.ensures
