use Rattle.gs_client.specs.Edits.{Edits}
use Rattle.gs_client.specs.Sends.{Sends}
use Rattle.gs_laws_causes.proofs.Calls.{each_call}
use Rattle.gs_laws_causes.proofs.Carrying.{came_over}
use Rattle.gs_laws_causes.proofs.promises.an_unsure_answer_has_a_cause.Goals as goal

pub returns-clause-calls : goal.returns-clause-calls
returns-clause-calls g c = each_call (Sends g.L.Link.Carries)

pub returns-clause-edits : goal.returns-clause-edits
returns-clause-edits g c = each_call (Edits g.L.Link.Carries)

pub returns-clause-link : goal.returns-clause-link
returns-clause-link g c = came_over g.L.Link.Carries
