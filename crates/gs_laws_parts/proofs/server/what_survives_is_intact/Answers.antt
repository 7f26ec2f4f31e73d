use Rattle.gs_laws_parts.proofs.lemmas.server.Harm.{survives, survives_still, sound_undamaged}
use Rattle.gs_laws_parts.proofs.server.what_survives_is_intact.Goals as goal

pub returns-clause-survives : goal.returns-clause-survives
returns-clause-survives c = λ setting chunk w s upgrade event about sent so_far steps reached stands shows before is. survives setting chunk w s reached upgrade stands shows so_far before event about sent steps is

pub returns-clause-still : goal.returns-clause-still
returns-clause-still c = λ so_far upgrade chunk call s is. survives_still so_far upgrade chunk call s is

pub returns-clause-whole : goal.returns-clause-whole
returns-clause-whole c = λ live is. sound_undamaged live is
