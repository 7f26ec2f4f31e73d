use Rattle.gs_laws_lift.proofs.lemmas.stores.Answered.{answers_begin, answers_go_on}
use Rattle.gs_laws_lift.proofs.lemmas.stores.Waiting.{waits_go_on}
use Rattle.gs_laws_lift.proofs.stores.each_edit_that_is_told_done_is_done_in_a_machine.Goals as goal

pub returns-clause-begins : goal.returns-clause-begins
returns-clause-begins g c = λ seen failures armed config bytes asked. answers_begin seen failures armed config bytes asked

pub returns-clause-waits : goal.returns-clause-waits
returns-clause-waits g c = λ seen failures armed asked. waits_go_on seen failures armed asked

pub returns-clause-answers : goal.returns-clause-answers
returns-clause-answers g c = λ seen failures armed config bytes asked. answers_go_on seen failures armed config bytes asked
