use Rattle.gs_laws_runs.proofs.lemmas.plain.Made.{dones_are_made, told_are_made}
use Rattle.gs_laws_runs.proofs.lemmas.plain.Stepped.{steps_plain}
use Rattle.gs_laws_runs.proofs.lemmas.plain.Told.{put_were_told}
use Rattle.gs_laws_runs.proofs.plain.a_done_edit_is_made_at_its_place.Goals as goal

pub returns-clause-done : goal.returns-clause-done
returns-clause-done g c x =
    dones_are_made c.configurations_have_sizes.ensures c.a_message_edits_a_replica_by_what_it_says.ensures.edit x
    (steps_plain c.configurations_have_sizes.ensures c.a_message_edits_a_replica_by_what_it_says.ensures.edit x (c.each_rollback_is_of_a_prepare.ensures x) (c.a_rollback_gives_back_what_was_settled.ensures.settled x)
    (c.a_rollback_gives_back_what_was_settled.ensures.others x) (put_were_told c.configurations_have_sizes.ensures c.a_message_edits_a_replica_by_what_it_says.ensures.edit x))

pub returns-clause-told : goal.returns-clause-told
returns-clause-told g c x =
    told_are_made c.configurations_have_sizes.ensures c.a_message_edits_a_replica_by_what_it_says.ensures.edit x
    (steps_plain c.configurations_have_sizes.ensures c.a_message_edits_a_replica_by_what_it_says.ensures.edit x (c.each_rollback_is_of_a_prepare.ensures x) (c.a_rollback_gives_back_what_was_settled.ensures.settled x)
    (c.a_rollback_gives_back_what_was_settled.ensures.others x) (put_were_told c.configurations_have_sizes.ensures c.a_message_edits_a_replica_by_what_it_says.ensures.edit x))
