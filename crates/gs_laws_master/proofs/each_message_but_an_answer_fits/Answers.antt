use Rattle.gs_laws_master.proofs.lemmas.fitting.AcceptedMessages.{messages_fit, messages_keep}
use Rattle.gs_laws_master.proofs.each_message_but_an_answer_fits.Goals as goal

pub returns : goal.returns
returns c = record { fit = messages_fit; kept = messages_keep }
