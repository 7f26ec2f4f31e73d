use Rattle.gs_laws_looks.proofs.lemmas.lists.Listed.{epochs_are_numbers}
use Rattle.gs_laws_looks.proofs.lists.epochs_that_are_answered_are_numbers.Goals as goal

pub returns : goal.returns
returns g c seen failures config clients disks =
    epochs_are_numbers c.configurations_have_sizes.ensures c.epochs_never_fall.ensures c.a_rollback_gives_back_names_and_bytes.ensures.told_names seen failures config clients disks
