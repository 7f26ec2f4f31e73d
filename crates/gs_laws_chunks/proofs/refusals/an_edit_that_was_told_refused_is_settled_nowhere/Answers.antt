use Rattle.gs_laws_chunks.proofs.lemmas.refusals.Told.{told_are_numbered_nowhere, told_stand_nowhere}
use Rattle.gs_laws_chunks.proofs.refusals.an_edit_that_was_told_refused_is_settled_nowhere.Goals as goal

pub returns-clause-numbered : goal.returns-clause-numbered
returns-clause-numbered g c x =
    let refused = c.a_refused_edit_is_never_numbered.ensures in
    let told = c.refusals_are_told_where_edits_are_refused.ensures in
    told_are_numbered_nowhere x refused.over refused.stay refused.unnumbered refused.never (c.each_chunk_of_a_store_is_a_run_of_its_machine.ensures.left x) told.heard told.ticked

pub returns-clause-settled : goal.returns-clause-settled
returns-clause-settled g c x =
    let refused = c.a_refused_edit_is_never_numbered.ensures in
    let told = c.refusals_are_told_where_edits_are_refused.ensures in
    told_stand_nowhere x refused.over refused.stay refused.unnumbered refused.never (c.each_chunk_of_a_store_is_a_run_of_its_machine.ensures.left x) told.heard told.ticked
