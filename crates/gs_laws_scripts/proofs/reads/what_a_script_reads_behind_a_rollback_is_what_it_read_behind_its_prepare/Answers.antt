use Rattle.gs_laws_scripts.proofs.lemmas.reads.Lines.{read_the_same}
use Rattle.gs_laws_scripts.proofs.lemmas.reads.Scripts.{read_the_same_until_a_read_fails, read_the_same_until_a_write_fails, scripts_read_the_same}
use Rattle.gs_laws_scripts.proofs.reads.what_a_script_reads_behind_a_rollback_is_what_it_read_behind_its_prepare.Goals as goal

pub returns-clause-ended : goal.returns-clause-ended
returns-clause-ended g c =
    scripts_read_the_same
    (read_the_same c.readers_ask_under_locations_that_they_were_told.ensures.read c.readers_ask_under_locations_that_they_were_told.ensures.digest c.epochs_that_are_answered_are_numbers.ensures
    c.what_is_read_behind_a_rollback_is_what_was_read_behind_its_prepare.ensures)

pub returns-clause-read_fails : goal.returns-clause-read_fails
returns-clause-read_fails g c =
    read_the_same_until_a_read_fails
    (read_the_same c.readers_ask_under_locations_that_they_were_told.ensures.read c.readers_ask_under_locations_that_they_were_told.ensures.digest c.epochs_that_are_answered_are_numbers.ensures
    c.what_is_read_behind_a_rollback_is_what_was_read_behind_its_prepare.ensures)

pub returns-clause-write_fails : goal.returns-clause-write_fails
returns-clause-write_fails g c =
    read_the_same_until_a_write_fails
    (read_the_same c.readers_ask_under_locations_that_they_were_told.ensures.read c.readers_ask_under_locations_that_they_were_told.ensures.digest c.epochs_that_are_answered_are_numbers.ensures
    c.what_is_read_behind_a_rollback_is_what_was_read_behind_its_prepare.ensures)
