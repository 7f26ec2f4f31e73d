use Rattle.gs_laws_looks.proofs.lemmas.rollbacks.Readings.{reads_are_of_settled, reads_go_back}
use Rattle.gs_laws_looks.proofs.rollbacks.reads_behind_a_rollback_are_those_behind_its_prepare.Goals as goal

pub returns-clause-settled : goal.returns-clause-settled
returns-clause-settled g c x = reads_are_of_settled c.configurations_have_sizes.ensures c.a_message_edits_a_replica_by_what_it_says.ensures.edit x

pub returns-clause-back : goal.returns-clause-back
returns-clause-back g c x =
    reads_go_back c.configurations_have_sizes.ensures c.a_message_edits_a_replica_by_what_it_says.ensures.edit x (c.an_accepted_rollback_gives_the_names_back.ensures.accounts x) (c.a_rollback_gives_back_what_was_settled.ensures.settled x)
    (c.no_rollback_is_done_unnamed.ensures.members x)
