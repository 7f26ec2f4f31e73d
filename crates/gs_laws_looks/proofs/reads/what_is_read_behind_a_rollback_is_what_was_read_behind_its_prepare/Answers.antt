use Rattle.gs_laws_looks.proofs.lemmas.reads.Twice.{reads_come_back}
use Rattle.gs_laws_looks.proofs.reads.what_is_read_behind_a_rollback_is_what_was_read_behind_its_prepare.Goals as goal

pub returns : goal.returns
returns g c =
    reads_come_back c.configurations_have_sizes.ensures c.a_message_edits_a_replica_by_what_it_says.ensures.edit c.epochs_never_fall.ensures c.a_rollback_gives_back_names_and_bytes.ensures.told_names c.a_rollback_gives_back_what_was_settled.ensures.settled c.reads_are_legal.ensures.fetched
