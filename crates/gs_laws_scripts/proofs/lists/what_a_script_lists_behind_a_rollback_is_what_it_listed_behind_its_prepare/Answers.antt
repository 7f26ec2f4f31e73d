use Rattle.gs_laws_scripts.proofs.lemmas.lists.Lines.{list_the_same}
use Rattle.gs_laws_scripts.proofs.lemmas.lists.Scripts.{list_the_same_until_a_read_fails, list_the_same_until_a_write_fails, scripts_list_the_same}
use Rattle.gs_laws_scripts.proofs.lists.what_a_script_lists_behind_a_rollback_is_what_it_listed_behind_its_prepare.Goals as goal

pub returns-clause-ended : goal.returns-clause-ended
returns-clause-ended g c = scripts_list_the_same (list_the_same c.epochs_that_are_answered_are_numbers.ensures c.what_is_listed_behind_a_rollback_is_what_was_listed_behind_its_prepare.ensures)

pub returns-clause-read_fails : goal.returns-clause-read_fails
returns-clause-read_fails g c = list_the_same_until_a_read_fails (list_the_same c.epochs_that_are_answered_are_numbers.ensures c.what_is_listed_behind_a_rollback_is_what_was_listed_behind_its_prepare.ensures)

pub returns-clause-write_fails : goal.returns-clause-write_fails
returns-clause-write_fails g c = list_the_same_until_a_write_fails (list_the_same c.epochs_that_are_answered_are_numbers.ensures c.what_is_listed_behind_a_rollback_is_what_was_listed_behind_its_prepare.ensures)
