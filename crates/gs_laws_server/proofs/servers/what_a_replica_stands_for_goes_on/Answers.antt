use Rattle.gs_laws_server.proofs.lemmas.servers.Following.{event_stands, run_stands, run_live}
use Rattle.gs_laws_server.proofs.servers.what_a_replica_stands_for_goes_on.Goals as goal

pub returns-clause-event : goal.returns-clause-event
returns-clause-event c = λ handle e s edits stands told kept live. event_stands handle e s edits stands told kept live

pub returns-clause-run : goal.returns-clause-run
returns-clause-run c = λ handle events s edits stands told kept live. run_stands handle events s edits stands told kept live

pub returns-clause-lived : goal.returns-clause-lived
returns-clause-lived c = λ handle events s kept live. run_live handle events s kept live
