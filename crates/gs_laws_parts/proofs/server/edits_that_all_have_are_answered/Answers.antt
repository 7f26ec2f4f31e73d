use Rattle.gs_laws_parts.proofs.lemmas.server.Answering.{ack_answering}
use Rattle.gs_laws_parts.proofs.lemmas.server.Edited.{edit_answering}
use Rattle.gs_laws_parts.proofs.lemmas.server.Reading.{answers_on, answered_stays}
use Rattle.gs_laws_parts.proofs.server.edits_that_all_have_are_answered.Goals as goal

pub returns-clause-acknowledged : goal.returns-clause-acknowledged
returns-clause-acknowledged c = λ bytes born w h p from stamp count here says. ack_answering bytes born w h p here from stamp count says

pub returns-clause-edited : goal.returns-clause-edited
returns-clause-edited c = λ bytes born w h p req stamp op here told whole right. edit_answering bytes born w h p here told.live whole req stamp op right

pub returns-clause-goes_on : goal.returns-clause-goes_on
returns-clause-goes_on c = λ setting w last me under req op outcome reached leads is. answers_on setting w last reached leads me under req op outcome is

pub returns-clause-stays : goal.returns-clause-stays
returns-clause-stays c = λ setting w last me req outcome reached leads a. answered_stays setting w last reached leads me req outcome a
