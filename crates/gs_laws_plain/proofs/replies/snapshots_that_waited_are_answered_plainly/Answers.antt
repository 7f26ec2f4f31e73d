use Rattle.gs_laws_plain.proofs.lemmas.replies.Events.{messages_answer, ticks_answer}
use Rattle.gs_laws_plain.proofs.replies.snapshots_that_waited_are_answered_plainly.Goals as goal

pub returns-clause-messages : goal.returns-clause-messages
returns-clause-messages g = messages_answer

pub returns-clause-ticks : goal.returns-clause-ticks
returns-clause-ticks g = ticks_answer
