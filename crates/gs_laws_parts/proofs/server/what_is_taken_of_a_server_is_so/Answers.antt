use Rattle.gs_laws_parts.proofs.lemmas.server.Resting.{leads_whole, epochs_known, created_late, brought_late, brings_copy}
use Rattle.gs_laws_parts.proofs.server.what_is_taken_of_a_server_is_so.Goals as goal

pub returns-clause-whole : goal.returns-clause-whole
returns-clause-whole c = λ w me reached. leads_whole w reached me

pub returns-clause-known : goal.returns-clause-known
returns-clause-known c = λ w reached. epochs_known w reached

pub returns-clause-created : goal.returns-clause-created
returns-clause-created c = λ b w leads to t told. created_late b w leads to t told

pub returns-clause-brought : goal.returns-clause-brought
returns-clause-brought c = λ b w leads to t edits image told. brought_late b w leads to t edits image told

pub returns-clause-copied : goal.returns-clause-copied
returns-clause-copied c = λ b w leads setting old_setting chunk handle s at stamp old now born block size shows copy. brings_copy b w leads setting old_setting chunk handle s at stamp old now born block size shows copy
