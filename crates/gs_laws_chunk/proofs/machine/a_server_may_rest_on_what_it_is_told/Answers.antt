use Rattle.gs_laws_chunk.proofs.lemmas.machine.Facts.{reached_world}
use Rattle.gs_laws_chunk.proofs.lemmas.machine.Prepared.{prepared_rests}
use Rattle.gs_laws_chunk.proofs.lemmas.machine.Resting.{leases_rest, epochs_told, born_first, members_learned, peopled_stood, promises_rest, none_ahead}
use Rattle.gs_laws_chunk.proofs.machine.a_server_may_rest_on_what_it_is_told.Goals as goal

pub returns-clause-leases : goal.returns-clause-leases
returns-clause-leases c = λ w r. leases_rest w (reached_world w r)

pub returns-clause-told : goal.returns-clause-told
returns-clause-told c = λ w r. epochs_told w (reached_world w r)

pub returns-clause-born : goal.returns-clause-born
returns-clause-born c = λ b w leads. born_first b w leads

pub returns-clause-learned : goal.returns-clause-learned
returns-clause-learned c = λ w r. members_learned w (reached_world w r)

pub returns-clause-ahead : goal.returns-clause-ahead
returns-clause-ahead c = λ w r. none_ahead w (reached_world w r)

pub returns-clause-promises : goal.returns-clause-promises
returns-clause-promises c = λ w r. promises_rest w (reached_world w r)

pub returns-clause-stood : goal.returns-clause-stood
returns-clause-stood c = λ w r. peopled_stood w (reached_world w r)

pub returns-clause-prepared : goal.returns-clause-prepared
returns-clause-prepared c = λ w r. prepared_rests w (reached_world w r)
