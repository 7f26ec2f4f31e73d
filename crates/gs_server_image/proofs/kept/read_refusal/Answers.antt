use Rattle.std.proofs.Common.{◌∙◌, ap, Some}
use Rattle.gs_fields.specs.Reading.{◌>>=◌}
use Rattle.gs_server_image.proofs.Refusals.{refusal_read}
use Rattle.gs_server_image.proofs.kept.read_refusal.Goals as goal

pub returns-in-Some : goal.returns-in-Some
returns-in-Some c = refusal_read _ _ _ _ _ _ c.in_ok-number.ensures c.in_ok-detail.ensures c.in_ok-refusal.ensures ∙ ap (λ o. o >>= λ r. Some (r, c.read_text.new.cursor.rest.now)) c.in-Some.is

pub returns-in-None : goal.returns-in-None
returns-in-None c = refusal_read _ _ _ _ _ _ c.in_ok-number.ensures c.in_ok-detail.ensures c.in_ok-refusal.ensures ∙ ap (λ o. o >>= λ r. Some (r, c.read_text.new.cursor.rest.now)) c.in-None.is
