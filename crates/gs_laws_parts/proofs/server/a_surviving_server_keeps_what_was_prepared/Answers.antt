use Rattle.gs_laws_parts.proofs.lemmas.server.Sealing.{keeps_prepared, survivor_named}
use Rattle.gs_laws_parts.proofs.server.a_surviving_server_keeps_what_was_prepared.Goals as goal

pub returns-clause-keeps : goal.returns-clause-keeps
returns-clause-keeps c = λ b w leads setting chunk s born shows upgrade up survives. keeps_prepared b w leads setting chunk s born shows upgrade up survives

pub returns-clause-names : goal.returns-clause-names
returns-clause-names c = λ b w leads setting chunk s born shows upgrade up rolling survives here. survivor_named b w leads setting chunk s born shows upgrade up rolling survives here
