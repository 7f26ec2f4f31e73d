use Rattle.gs_server.proofs.Behind.{event_call, run_calls}
use Rattle.gs_server.proofs.promises.events_are_calls_of_slots.Goals as goal

pub returns-clause-event : goal.returns-clause-event
returns-clause-event c = λ handle e s. event_call handle e s

pub returns-clause-run : goal.returns-clause-run
returns-clause-run c = λ handle events s. run_calls handle events s
