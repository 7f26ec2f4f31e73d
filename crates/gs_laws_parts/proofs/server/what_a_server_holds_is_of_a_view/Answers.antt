use Rattle.gs_laws_parts.proofs.lemmas.server.Holding.{holds_first, holds_all, legal_read}
use Rattle.gs_laws_parts.proofs.server.what_a_server_holds_is_of_a_view.Goals as goal

pub returns-clause-first : goal.returns-clause-first
returns-clause-first c = λ setting chunk w s reached shows live. holds_first setting chunk w reached s shows live

pub returns-clause-all : goal.returns-clause-all
returns-clause-all c = λ setting chunk w last s reached leads free member shows under. holds_all setting chunk w reached last s leads free member shows under

pub returns-clause-read : goal.returns-clause-read
returns-clause-read c = λ setting w last me asked found reached leads known quiet member read. legal_read setting 0 w reached last me asked found leads known quiet member read
