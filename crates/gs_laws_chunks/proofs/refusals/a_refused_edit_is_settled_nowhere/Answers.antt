use Rattle.gs_laws_chunks.proofs.lemmas.refusals.Refused.{refused_are_numbered_nowhere, refused_stand_nowhere}
use Rattle.gs_laws_chunks.proofs.refusals.a_refused_edit_is_settled_nowhere.Goals as goal

pub returns-clause-numbered : goal.returns-clause-numbered
returns-clause-numbered g c x =
    let refused = c.a_refused_edit_is_never_numbered.ensures in
    refused_are_numbered_nowhere x refused.over refused.stay refused.unnumbered refused.never (c.each_chunk_of_a_store_is_a_run_of_its_machine.ensures.left x)

pub returns-clause-settled : goal.returns-clause-settled
returns-clause-settled g c x =
    let refused = c.a_refused_edit_is_never_numbered.ensures in
    refused_stand_nowhere x refused.over refused.stay refused.unnumbered refused.never (c.each_chunk_of_a_store_is_a_run_of_its_machine.ensures.left x)
