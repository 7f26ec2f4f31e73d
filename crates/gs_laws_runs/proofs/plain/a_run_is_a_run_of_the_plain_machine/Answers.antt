use Rattle.gs_laws_runs.proofs.lemmas.plain.Beginning.{begins_plain}
use Rattle.gs_laws_runs.proofs.lemmas.plain.Runs.{runs_plain}
use Rattle.gs_laws_runs.proofs.lemmas.plain.Stepped.{steps_plain}
use Rattle.gs_laws_runs.proofs.lemmas.plain.Told.{put_were_told}
use Rattle.gs_laws_runs.proofs.plain.a_run_is_a_run_of_the_plain_machine.Goals as goal

pub returns-clause-begins : goal.returns-clause-begins
returns-clause-begins g c x = begins_plain x

pub returns-clause-steps : goal.returns-clause-steps
returns-clause-steps g c x =
    steps_plain c.configurations_have_sizes.ensures c.a_message_edits_a_replica_by_what_it_says.ensures.edit x (c.each_rollback_is_of_a_prepare.ensures x) (c.a_rollback_gives_back_what_was_settled.ensures.settled x)
    (c.a_rollback_gives_back_what_was_settled.ensures.others x) (put_were_told c.configurations_have_sizes.ensures c.a_message_edits_a_replica_by_what_it_says.ensures.edit x)

pub returns-clause-runs : goal.returns-clause-runs
returns-clause-runs g c x =
    runs_plain x (steps_plain c.configurations_have_sizes.ensures c.a_message_edits_a_replica_by_what_it_says.ensures.edit x (c.each_rollback_is_of_a_prepare.ensures x) (c.a_rollback_gives_back_what_was_settled.ensures.settled x)
    (c.a_rollback_gives_back_what_was_settled.ensures.others x) (put_were_told c.configurations_have_sizes.ensures c.a_message_edits_a_replica_by_what_it_says.ensures.edit x))
