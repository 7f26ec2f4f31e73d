use Rattle.std.proofs.Common.{◌≡◌, rules, Err}
use Rattle.gs_client.specs.Sends.{Sends}
use Rattle.gs_client.proofs.Lengths.{length_none, length_ends, length_told, length_fits}
use Rattle.gs_client.proofs.client.Client.length.Goals as goal

pub returns-in_err-given-clause-is : goal.returns-in_err-given-clause-is
returns-in_err-given-clause-is g c =
    let e : c.from_residual.result ≡ Err c.in_err-given.field-0.0 = search rules in
    rw e (length_none (Sends g.L.Link.Carries) c.args.file.now.size c.args.file.now.path.now c.args.file.now.known c.args.file.now.chunks c.if-file-eq0.false _ _ _ c.in_err-given.ensures)

pub returns-in_err-many-clause-is : goal.returns-in_err-many-clause-is
returns-in_err-many-clause-is g c =
    let e : c.from_residual-in_err-many.result ≡ Err c.in_err-many.field-0.0 = search rules in
    rw e (length_ends (Sends g.L.Link.Carries) c.args.file.now.size c.args.file.now.path.now c.args.file.now.known c.args.file.now.chunks c.if-file-eq0.false _ _ _ _ _ c.in_ok-given.ensures c.in_err-many.ensures.is)

pub returns-clause-is : goal.returns-clause-is
returns-clause-is g c =
    rw c.bytes_of.ensures.is
    (length_told (Sends g.L.Link.Carries) c.args.file.now.size c.args.file.now.path.now c.args.file.now.known c.args.file.now.chunks c.if-file-eq0.false _ _ _ _ _ c.in_ok-given.ensures c.in_ok-many.ensures.is)

pub returns-clause-few : goal.returns-clause-few
returns-clause-few g c =
    rw c.bytes_of.ensures.is (length_fits c.args.file.now.chunks c.args.file.now.size c.in_ok-many.many c.if-file-eq0.false c.args.file.now.few c.in_ok-many.ensures.few)
