use Rattle.gs_laws_looks.proofs.lemmas.clients.Following.{digests_what_stands, reads_what_stands}
use Rattle.gs_laws_looks.proofs.clients.reads_give_what_stands.Goals as goal

pub returns-clause-bytes : goal.returns-clause-bytes
returns-clause-bytes g = reads_what_stands

pub returns-clause-digests : goal.returns-clause-digests
returns-clause-digests g = digests_what_stands
