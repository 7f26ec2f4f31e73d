use Rattle.gs_laws_server.proofs.lemmas.servers.Repeating.{created_again, taken_again, create_again, copy_again}
use Rattle.gs_laws_server.proofs.servers.what_is_promised_again_leaves_what_stands.Goals as goal

pub returns-clause-created : goal.returns-clause-created
returns-clause-created c = λ block chunk stamp s s2 below is. created_again block chunk stamp s s2 below is

pub returns-clause-taken : goal.returns-clause-taken
returns-clause-taken c = λ h s s2 below is. taken_again h s s2 below is

pub returns-clause-create : goal.returns-clause-create
returns-clause-create c = λ s from handle stamp moment reached below. create_again s from handle stamp moment reached below

pub returns-clause-copy : goal.returns-clause-copy
returns-clause-copy c = λ s from handle stamp image sealed moment reached below. copy_again s from handle stamp image sealed moment reached below
