use Rattle.gs_laws_looks.proofs.lemmas.leaders.Reading.{reads_are_of_unled, unled_reads_go_back}
use Rattle.gs_laws_looks.proofs.leaders.reads_of_a_chunk_that_nobody_leads_are_of_what_was_settled.Goals as goal

pub returns-clause-settled : goal.returns-clause-settled
returns-clause-settled g c x = reads_are_of_unled c.configurations_have_sizes.ensures c.a_message_edits_a_replica_by_what_it_says.ensures.edit x

pub returns-clause-back : goal.returns-clause-back
returns-clause-back g c x =
    unled_reads_go_back c.configurations_have_sizes.ensures c.a_message_edits_a_replica_by_what_it_says.ensures.edit x (c.an_accepted_rollback_gives_the_names_back.ensures.accounts x) (c.a_rollback_gives_back_what_was_settled.ensures.settled x)
    (c.no_rollback_is_done_unnamed.ensures.members x)
