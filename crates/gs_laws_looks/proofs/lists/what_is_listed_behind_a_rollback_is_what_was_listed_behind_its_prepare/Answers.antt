use Rattle.gs_laws_looks.proofs.lemmas.lists.Listed.{lists_come_back}
use Rattle.gs_laws_looks.proofs.lists.what_is_listed_behind_a_rollback_is_what_was_listed_behind_its_prepare.Goals as goal

pub returns : goal.returns
returns g c seen failures config clients disks =
    lists_come_back c.configurations_have_sizes.ensures c.epochs_never_fall.ensures c.a_rollback_gives_back_names_and_bytes.ensures.told_names seen failures config clients disks
