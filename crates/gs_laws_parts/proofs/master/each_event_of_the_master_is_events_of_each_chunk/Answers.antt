use Rattle.gs_laws_parts.proofs.lemmas.master.Every.{chains_follow, cuts_follow, events_cut_follow, events_follow, moves_follow, parts_follow, restarts_follow, ticks_follow, written_chains_follow}
use Rattle.gs_laws_parts.proofs.master.each_event_of_the_master_is_events_of_each_chunk.Goals as goal

pub returns : goal.returns
returns c = record { moves = moves_follow; chains = chains_follow; cuts = cuts_follow; restarts = restarts_follow; events = events_follow; failed = events_cut_follow; written = written_chains_follow; parts = parts_follow; ticks = ticks_follow }
