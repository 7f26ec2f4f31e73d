use Rattle.gs_laws_moves.proofs.lemmas.moves.Stands.{chains_stand, cuts_stand, events_stand}
use Rattle.gs_laws_moves.proofs.moves.what_is_durable_stands_before_and_behind_each_move.Goals as goal

pub returns : goal.returns
returns c = record { chains = chains_stand; events = events_stand; cuts = cuts_stand }
