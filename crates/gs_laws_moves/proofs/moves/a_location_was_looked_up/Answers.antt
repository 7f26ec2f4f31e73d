use Rattle.gs_laws_moves.proofs.lemmas.moves.Locations.{kept_were_located, located_are_right, sent_were_located}
use Rattle.gs_laws_moves.proofs.moves.a_location_was_looked_up.Goals as goal

pub returns : goal.returns
returns c = record { kept = kept_were_located; sent = sent_were_located; right = located_are_right }
