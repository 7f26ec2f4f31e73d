use Rattle.gs_laws_runs.proofs.lemmas.plain.Back.{go_back_plainly}
use Rattle.gs_laws_runs.proofs.lemmas.plain.Stepped.{steps_plain}
use Rattle.gs_laws_runs.proofs.lemmas.plain.Told.{put_were_told}
use Rattle.gs_laws_runs.proofs.plain.a_rollback_shows_what_its_prepare_showed.Goals as goal

pub returns-clause-shown : goal.returns-clause-shown
returns-clause-shown g c x =
    go_back_plainly x (steps_plain c.configurations_have_sizes.ensures c.a_message_edits_a_replica_by_what_it_says.ensures.edit x (c.each_rollback_is_of_a_prepare.ensures x) (c.a_rollback_gives_back_what_was_settled.ensures.settled x)
    (c.a_rollback_gives_back_what_was_settled.ensures.others x) (put_were_told c.configurations_have_sizes.ensures c.a_message_edits_a_replica_by_what_it_says.ensures.edit x))

pub returns-clause-replicas : goal.returns-clause-replicas
returns-clause-replicas g c x = c.a_rollback_gives_back_what_was_settled.ensures.replicas x

pub returns-clause-text : goal.returns-clause-text
returns-clause-text g c x = c.a_rollback_gives_back_what_was_settled.ensures.text x
