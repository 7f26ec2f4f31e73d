-- The names after the record of an edit are those that the edit gives.
use Rattle.std.proofs.Common.{◌≡◌, Some, refl, ap, ◌∙◌}
use Rattle.std.specs.Prelude.{is_some, Result, Ok, Err}
use Rattle.std.proofs.lemmas.Bool.{false≢true}
use Rattle.gs_base.specs.declared.numbers.ReqId.{ReqId}
use Rattle.gs_base.specs.declared.refusal.Refusal.{Refusal}
use Rattle.gs_edit.specs.View.{NamesView}
use Rattle.gs_master_record.specs.Plain.{PlainEdit, Edited}
use Rattle.gs_master_spec.specs.Applied.{after_edit, applied, may_edit, with_edit}
use Rattle.gs_master_spec.specs.Durable.{Durable}
use Rattle.gs_master_spec.specs.Undoing.{edited_names}
use Rattle.gs_laws_master.proofs.lemmas.upgrades.Beginnings.{fits_gives}

pub names_given : (d next : Durable) (by : ReqId) (edit : PlainEdit) → applied d (Edited by edit) ≡ Some next → edited_names edit d.names ≡ Ok next.names
unfolding applied
names_given d next by edit fit = by_names (edited_names edit d.names) refl fit
  where
    by_names : (names : Result NamesView Refusal) → edited_names edit d.names ≡ names → after_edit d by edit names ≡ Some next → edited_names edit d.names ≡ Ok next.names
    by_names (Ok names) is h = is ∙ ap (λ (x : Durable). Ok x.names) (fits_gives (may_edit d edit) (with_edit d by edit names) next h).1
    by_names (Err refusal) is h = absurd (false≢true (ap is_some h))
