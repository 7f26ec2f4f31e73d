use Rattle.std.proofs.Common.{◌≡◌, ◌∙◌, ◌+◌, ◌-◌, ◌*◌, min, rules, Err}
use Rattle.gs_client.specs.Sends.{Sends}
use Rattle.gs_client.proofs.Lengths.{not_full, least, end_none, end_past, end_told}
use Rattle.gs_client.proofs.client.Client.end.Goals as goal

pub returns-in_err-length-clause-is : goal.returns-in_err-length-clause-is
returns-in_err-length-clause-is g c =
    let e : c.from_residual.result ≡ Err c.in_err-length.field-0.0 = search rules in
    let full : c.bytes_of-full.result ≡ (c.args.file.now.chunks - 1) * c.args.file.now.size = search rules in
    let test = rw full at (not_full (c.args.range.offset + c.args.range.many) c.bytes_of-full.result c.saturating_add-end.result (search rules) c.if-end-full.false) in
    rw e (end_none (Sends g.L.Link.Carries) c.args.file.now.size c.args.file.now.path.now c.args.file.now.known c.args.file.now.chunks c.args.range.offset c.args.range.many test _ _ _ c.in_err-length.ensures.is)

pub returns-then-length-range-clause-is : goal.returns-then-length-range-clause-is
returns-then-length-range-clause-is g c =
    let full : c.bytes_of-full.result ≡ (c.args.file.now.chunks - 1) * c.args.file.now.size = search rules in
    let test = rw full at (not_full (c.args.range.offset + c.args.range.many) c.bytes_of-full.result c.saturating_add-end.result (search rules) c.if-end-full.false) in
    end_past (Sends g.L.Link.Carries) c.args.file.now.size c.args.file.now.path.now c.args.file.now.known c.args.file.now.chunks c.args.range.offset c.args.range.many test _ _ _ _ c.in_ok-length.ensures.is c.if-length-range.true

pub returns-clause-is : goal.returns-clause-is
returns-clause-is g c =
    let full : c.bytes_of-full.result ≡ (c.args.file.now.chunks - 1) * c.args.file.now.size = search rules in
    let test = rw full at (not_full (c.args.range.offset + c.args.range.many) c.bytes_of-full.result c.saturating_add-end.result (search rules) c.if-end-full.false) in
    let e : c.min.result ≡ min (c.args.range.offset + c.args.range.many) c.in_ok-length.length =
    c.min.ensures ∙ least (c.args.range.offset + c.args.range.many) c.saturating_add-end.result c.in_ok-length.length c.args.file.now.size (search rules) c.in_ok-length.ensures.few c.args.file.now.bounded in
    rw e (end_told (Sends g.L.Link.Carries) c.args.file.now.size c.args.file.now.path.now c.args.file.now.known c.args.file.now.chunks c.args.range.offset c.args.range.many test _ _ _ _ c.in_ok-length.ensures.is c.if-length-range.false)
