use Rattle.std.proofs.Common.{◌∙◌, ap, sym, Some}
use Rattle.gs_fields.proofs.Steps.{text_read, text_unread}
use Rattle.gs_fields.proofs.blobs.read_text.Goals as goal

pub returns-in-Ok : goal.returns-in-Ok
returns-in-Ok c = text_read _ _ _ _ _ _ c.in_ok-length.ensures c.from.ensures c.in_ok-text.ensures c.in-Ok.ensures.cases.1 ∙ ap (λ t. Some (t, c.take.new.cursor.rest.now)) (sym c.in-Ok.ensures.cases.0)

pub returns-in-Err : goal.returns-in-Err
returns-in-Err c = text_unread _ _ _ _ _ _ c.in_ok-length.ensures c.from.ensures c.in_ok-text.ensures c.in-Err.ensures.cases.0
