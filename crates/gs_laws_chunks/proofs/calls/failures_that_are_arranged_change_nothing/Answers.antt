use Rattle.gs_laws_chunks.proofs.lemmas.calls.Arming.{arms_alone, unarmed_alone}
use Rattle.gs_laws_chunks.proofs.calls.failures_that_are_arranged_change_nothing.Goals as goal

pub returns-clause-arms : goal.returns-clause-arms
returns-clause-arms g c = arms_alone

pub returns-clause-unarmed : goal.returns-clause-unarmed
returns-clause-unarmed g c = unarmed_alone
