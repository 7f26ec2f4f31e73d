use Rattle.std.proofs.Common.{sym, ◌∙◌}
use Rattle.std.proofs.lemmas.Result.{err_from_is_err_and}
use Rattle.gs_parts_image.proofs.Loops.{is_whole, is_not_whole, whole_fails}
use Rattle.gs_parts_image.proofs.servers.server_in.Goals as goal

pub returns-in_err-server : goal.returns-in_err-server
returns-in_err-server c =
    let p = err_from_is_err_and c.from_residual.result c.from_residual.ensures.1 in
    rw (p.1, p.2) (whole_fails c.in_err-server.field-0.0 _ c.in_err-server.ensures)

pub returns-then-not-is_empty : goal.returns-then-not-is_empty
returns-then-not-is_empty c = is_not_whole _ _ c.read_server.new.cursor.rest.now c.in_ok-server.ensures (sym c.is_empty.ensures ∙ c.if-not-is_empty.true)

pub returns : goal.returns
returns c = is_whole _ _ c.read_server.new.cursor.rest.now c.in_ok-server.ensures (sym c.is_empty.ensures ∙ c.if-not-is_empty.false)
