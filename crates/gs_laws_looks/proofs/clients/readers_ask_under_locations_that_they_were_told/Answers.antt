use Rattle.gs_laws_looks.proofs.lemmas.clients.Located.{digesters_ask_so, readers_ask_so}
use Rattle.gs_laws_looks.proofs.clients.readers_ask_under_locations_that_they_were_told.Goals as goal

pub returns-clause-read : goal.returns-clause-read
returns-clause-read g = readers_ask_so

pub returns-clause-digest : goal.returns-clause-digest
returns-clause-digest g = digesters_ask_so
