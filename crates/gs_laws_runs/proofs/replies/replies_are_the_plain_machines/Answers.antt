use Rattle.gs_laws_runs.proofs.lemmas.replies.Answering.{commands_said, replies_plain}
use Rattle.gs_laws_runs.proofs.lemmas.replies.Sending.{sent_plain}
use Rattle.gs_laws_runs.proofs.replies.replies_are_the_plain_machines.Goals as goal

pub returns-clause-replies : goal.returns-clause-replies
returns-clause-replies g c x = replies_plain c.calls_of_the_tree_do_what_they_answer.ensures x

pub returns-clause-commands : goal.returns-clause-commands
returns-clause-commands g c x = commands_said x

pub returns-clause-sent : goal.returns-clause-sent
returns-clause-sent g c x =
    sent_plain c.calls_of_the_tree_do_what_they_answer.ensures c.configurations_have_sizes.ensures c.a_message_edits_a_replica_by_what_it_says.ensures.edit x (c.each_rollback_is_of_a_prepare.ensures x)
    (c.a_rollback_gives_back_what_was_settled.ensures.settled x) (c.a_rollback_gives_back_what_was_settled.ensures.others x) (c.copies_were_told_to_be_such.ensures.put x)
