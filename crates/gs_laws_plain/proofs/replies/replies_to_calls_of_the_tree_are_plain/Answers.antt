use Rattle.gs_laws_plain.proofs.lemmas.replies.Replying.{messages_reply, ticks_reply}
use Rattle.gs_laws_plain.proofs.replies.replies_to_calls_of_the_tree_are_plain.Goals as goal

pub returns-clause-messages : goal.returns-clause-messages
returns-clause-messages c = messages_reply c.calls_of_the_tree_do_what_they_answer.ensures

pub returns-clause-ticks : goal.returns-clause-ticks
returns-clause-ticks c = ticks_reply
