use Rattle.gs_laws_parts.proofs.lemmas.master.Restarting.{restarts_reach}
use Rattle.gs_laws_parts.proofs.master.a_restart_is_events_of_each_chunk.Goals as goal

pub returns : goal.returns
returns c = restarts_reach
