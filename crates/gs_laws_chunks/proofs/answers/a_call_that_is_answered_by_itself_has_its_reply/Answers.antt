use Rattle.gs_laws_chunks.proofs.lemmas.answers.Answered.{lone_answers_are_made}
use Rattle.gs_laws_chunks.proofs.lemmas.answers.Served.{lone_calls_are_for_the_master, lone_refusals_are_made}
use Rattle.gs_laws_chunks.proofs.answers.a_call_that_is_answered_by_itself_has_its_reply.Goals as goal

pub returns-clause-answers : goal.returns-clause-answers
returns-clause-answers g c = lone_answers_are_made

pub returns-clause-refusals : goal.returns-clause-refusals
returns-clause-refusals g c seen failures armed = lone_refusals_are_made seen failures armed

pub returns-clause-servers : goal.returns-clause-servers
returns-clause-servers g c seen failures armed = lone_calls_are_for_the_master seen failures armed
