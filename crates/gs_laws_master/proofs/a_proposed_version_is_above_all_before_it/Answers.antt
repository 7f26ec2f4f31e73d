use Rattle.gs_laws_master.proofs.lemmas.versions.FreshTurns.{proposes_fresh, proposes_fresh_at_ticks}
use Rattle.gs_laws_master.proofs.a_proposed_version_is_above_all_before_it.Goals as goal

pub returns : goal.returns
returns c = record { messages = proposes_fresh; ticks = proposes_fresh_at_ticks }
