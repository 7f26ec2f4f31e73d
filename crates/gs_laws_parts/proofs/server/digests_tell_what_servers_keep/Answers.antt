use Rattle.gs_laws_parts.proofs.lemmas.server.Among.{steps_among, old_among, apart_among, copied_among, new_among}
use Rattle.gs_laws_parts.proofs.server.digests_tell_what_servers_keep.Goals as goal

pub returns-clause-apart : goal.returns-clause-apart
returns-clause-apart c = λ among setting w me s tells reached lists keeps. apart_among among setting w me s tells reached lists keeps

pub returns-clause-steps : goal.returns-clause-steps
returns-clause-steps c = λ among setting cause chunk w me about after sent steps lists keeps. steps_among among setting cause chunk w me about after sent steps lists keeps

pub returns-clause-old : goal.returns-clause-old
returns-clause-old c = λ among setting w last old lists. old_among among setting w last old lists

pub returns-clause-copied : goal.returns-clause-copied
returns-clause-copied c = λ among setting epoch how old stamp lists. copied_among among setting epoch how old stamp lists

pub returns-clause-new : goal.returns-clause-new
returns-clause-new c = λ among setting epoch how empty. new_among among setting epoch how empty
