use Rattle.gs_laws_runs.proofs.lemmas.plain.Stepped.{edits_one_place}
use Rattle.gs_laws_runs.proofs.plain.edits_come_to_one_place_each.Goals as goal

pub returns : goal.returns
returns g c x =
    edits_one_place c.configurations_have_sizes.ensures c.a_message_edits_a_replica_by_what_it_says.ensures.edit x (c.each_rollback_is_of_a_prepare.ensures x) (c.a_rollback_gives_back_what_was_settled.ensures.settled x)
    (c.a_rollback_gives_back_what_was_settled.ensures.others x)
