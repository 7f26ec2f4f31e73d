use Rattle.gs_laws_world.proofs.lemmas.lasting.Lasting.{opens_again, opens_told, waits_again}
use Rattle.gs_laws_world.proofs.lasting.a_restart_opens_what_stood.Goals as goal

pub returns-clause-opened : goal.returns-clause-opened
returns-clause-opened g c seen failures config m turn new h opening = opens_again seen failures config m turn new h opening

pub returns-clause-waits : goal.returns-clause-waits
returns-clause-waits g c seen failures config m e new h opening same = waits_again seen failures config m e new h opening same

pub returns-clause-again : goal.returns-clause-again
returns-clause-again g c seen failures config first second d turn new kept counters told opening = opens_told seen failures config first second d turn new kept counters told opening
