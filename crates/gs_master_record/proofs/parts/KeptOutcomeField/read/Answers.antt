use Rattle.std.proofs.Common.{◌∙◌, ap, Some}
use Rattle.gs_master_record.specs.Plain.{Refused}
use Rattle.gs_master_record.specs.inner.Reading.{◌>>=◌}
use Rattle.gs_master_record.proofs.Codes.{outcome_read}
use Rattle.gs_master_record.proofs.parts.KeptOutcomeField.read.Goals as goal

pub returns-in-Some : goal.returns-in-Some
returns-in-Some c = outcome_read _ _ _ _ _ _ c.in_ok-number.ensures c.in_ok-text.ensures c.if-number-eq0.false c.in_ok-refusal.ensures ∙ ap (λ o. o >>= λ r. Some (Refused r, c.read_text.new.cursor.rest.now)) c.in-Some.is

pub returns-in-None : goal.returns-in-None
returns-in-None c = outcome_read _ _ _ _ _ _ c.in_ok-number.ensures c.in_ok-text.ensures c.if-number-eq0.false c.in_ok-refusal.ensures ∙ ap (λ o. o >>= λ r. Some (Refused r, c.read_text.new.cursor.rest.now)) c.in-None.is
