use Rattle.gs_laws_scripts.proofs.lemmas.lists.Lines.{list_the_same}
use Rattle.gs_laws_scripts.proofs.lists.what_is_listed_twice_by_lines_is_the_same.Goals as goal

pub returns : goal.returns
returns g c = list_the_same c.epochs_that_are_answered_are_numbers.ensures c.what_is_listed_behind_a_rollback_is_what_was_listed_behind_its_prepare.ensures
