use Rattle.gs_laws_server.proofs.lemmas.servers.Calling.{event_calls}
use Rattle.gs_laws_server.proofs.servers.an_event_calls_what_it_says.Goals as goal

pub returns : goal.returns
returns c = λ handle e s. event_calls handle e s
