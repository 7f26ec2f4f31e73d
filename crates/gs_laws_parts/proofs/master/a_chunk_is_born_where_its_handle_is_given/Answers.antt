use Rattle.gs_laws_parts.proofs.lemmas.master.Carrying.{chains_go_unborn, events_cut_go_unborn, events_go_unborn, written_chains_go_unborn, written_cuts_go_unborn}
use Rattle.gs_laws_parts.proofs.lemmas.master.Unborn.{each_move_goes_unborn, restarts_unborn}
use Rattle.gs_laws_parts.proofs.master.a_chunk_is_born_where_its_handle_is_given.Goals as goal

pub returns : goal.returns
returns c = record { moves = each_move_goes_unborn; restarts = restarts_unborn; chains = chains_go_unborn; events = events_go_unborn; failed = events_cut_go_unborn; written = written_chains_go_unborn; cut = written_cuts_go_unborn }
