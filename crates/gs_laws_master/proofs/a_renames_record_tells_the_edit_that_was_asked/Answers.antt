use Rattle.gs_master_state.proofs.Renames.{resolved_back, resolved_does}
use Rattle.gs_laws_master.proofs.lemmas.names.Resolved.{records_resolved, resolves_once}
use Rattle.gs_laws_master.proofs.a_renames_record_tells_the_edit_that_was_asked.Goals as goal

pub returns : goal.returns
returns c = record { once = resolves_once; names = resolved_does; back = resolved_back; recorded = records_resolved }
