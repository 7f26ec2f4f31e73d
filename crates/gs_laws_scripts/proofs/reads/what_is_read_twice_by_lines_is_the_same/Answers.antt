use Rattle.gs_laws_scripts.proofs.lemmas.reads.Lines.{read_the_same}
use Rattle.gs_laws_scripts.proofs.reads.what_is_read_twice_by_lines_is_the_same.Goals as goal

pub returns : goal.returns
returns g c =
    read_the_same c.readers_ask_under_locations_that_they_were_told.ensures.read c.readers_ask_under_locations_that_they_were_told.ensures.digest c.epochs_that_are_answered_are_numbers.ensures
    c.what_is_read_behind_a_rollback_is_what_was_read_behind_its_prepare.ensures
