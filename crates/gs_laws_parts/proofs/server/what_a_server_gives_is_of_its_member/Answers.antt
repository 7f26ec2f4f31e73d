use Rattle.gs_laws_parts.proofs.lemmas.server.Reading.{fetch_read}
use Rattle.gs_laws_parts.proofs.lemmas.server.Naming.{names_chunk}
use Rattle.gs_laws_parts.proofs.server.what_a_server_gives_is_of_its_member.Goals as goal

pub returns-clause-reads : goal.returns-clause-reads
returns-clause-reads c = λ bytes born chunk w s from req stamp epoch asked moment x. fetch_read bytes born chunk w s x from req stamp epoch asked moment

pub returns-clause-names : goal.returns-clause-names
returns-clause-names c = λ setting chunk w s edits shows intact rolled can. names_chunk setting chunk w s edits shows intact rolled can
