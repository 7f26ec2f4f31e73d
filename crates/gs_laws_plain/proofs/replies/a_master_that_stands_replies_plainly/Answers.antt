use Rattle.gs_laws_plain.proofs.lemmas.replies.Steady.{message_meek, messages_plainly, tick_meek, ticks_plainly}
use Rattle.gs_laws_plain.proofs.replies.a_master_that_stands_replies_plainly.Goals as goal

pub returns-clause-messages : goal.returns-clause-messages
returns-clause-messages c = messages_plainly c.calls_of_the_tree_do_what_they_answer.ensures

pub returns-clause-ticks : goal.returns-clause-ticks
returns-clause-ticks c = ticks_plainly

pub returns-clause-failed : goal.returns-clause-failed
returns-clause-failed c = message_meek

pub returns-clause-failed_ticks : goal.returns-clause-failed_ticks
returns-clause-failed_ticks c = tick_meek
