use Rattle.gs_laws_moves.proofs.lemmas.moves.Called.{located_were_called, waiting_were_heard}
use Rattle.gs_laws_moves.proofs.moves.a_location_answers_a_call.Goals as goal

pub returns : goal.returns
returns c = record { waiting = waiting_were_heard; located = located_were_called }
