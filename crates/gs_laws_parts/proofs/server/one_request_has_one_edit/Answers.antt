use Rattle.gs_laws_parts.proofs.lemmas.server.Requests.{has_asked_nothing, asks_one, hears_one, gives_up, sent_for, sent_still, one_edit, none_asked, clients_ask, clients_go_on, others_send, all_of_one_edit}
use Rattle.gs_laws_parts.proofs.server.one_request_has_one_edit.Goals as goal

pub returns-clause-begins : goal.returns-clause-begins
returns-clause-begins c = λ id. has_asked_nothing id

pub returns-clause-asks : goal.returns-clause-asks
returns-clause-asks c = λ id asked n n2 number request sent has is. asks_one id asked n n2 number request sent has is

pub returns-clause-hears : goal.returns-clause-hears
returns-clause-hears c = λ id asked n n2 body has is. hears_one id asked n n2 body has is

pub returns-clause-gives_up : goal.returns-clause-gives_up
returns-clause-gives_up c = λ id asked n has. gives_up id asked n has

pub returns-clause-sends : goal.returns-clause-sends
returns-clause-sends c = λ asked id number request n before sent now is m there. sent_for asked id number request n before sent now is m there

pub returns-clause-stays : goal.returns-clause-stays
returns-clause-stays c = λ asked more m grows is. sent_still asked more m grows is

pub returns-clause-one : goal.returns-clause-one
returns-clause-one c = λ asked once m is. one_edit asked once m is

pub returns-clause-none : goal.returns-clause-none
returns-clause-none c = λ clients each. none_asked clients each

pub returns-clause-clients : goal.returns-clause-clients
returns-clause-clients c = λ clients asked sent id number request n n2 new are there is. clients_ask clients asked sent are id number request n n2 new there is

pub returns-clause-goes_on : goal.returns-clause-goes_on
returns-clause-goes_on c = λ clients asked sent id n n2 are there goes. clients_go_on clients asked sent are id n n2 there goes

pub returns-clause-others : goal.returns-clause-others
returns-clause-others c = λ clients asked sent new are none. others_send clients asked sent are new none

pub returns-clause-all : goal.returns-clause-all
returns-clause-all c = λ clients asked sent m are there. all_of_one_edit clients asked sent are m there
