use Rattle.gs_laws_moves.proofs.lemmas.moves.Epochs.{epochs_go, within_stays}
use Rattle.gs_laws_moves.proofs.lemmas.moves.Made.{events_end_once, ticks_end_once}
use Rattle.gs_laws_moves.proofs.lemmas.moves.Stands.{once_stands}
use Rattle.gs_laws_moves.proofs.moves.an_event_ends_one_epoch_at_most.Goals as goal

pub returns : goal.returns
returns c = record { events = events_end_once; stands = once_stands; within = within_stays; ticks = ticks_end_once; epochs = epochs_go }
