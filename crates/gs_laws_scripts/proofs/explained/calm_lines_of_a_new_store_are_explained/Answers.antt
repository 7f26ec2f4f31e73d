use Rattle.gs_laws_scripts.proofs.lemmas.explained.NewStores.{beginnings_until_a_read_fails, beginnings_until_a_write_fails, calm_from_the_beginning}
use Rattle.gs_laws_scripts.proofs.explained.calm_lines_of_a_new_store_are_explained.Goals as goal

pub returns-clause-ended : goal.returns-clause-ended
returns-clause-ended g c = calm_from_the_beginning c.configurations_have_sizes.ensures

pub returns-clause-read_fails : goal.returns-clause-read_fails
returns-clause-read_fails g c = beginnings_until_a_read_fails c.configurations_have_sizes.ensures

pub returns-clause-write_fails : goal.returns-clause-write_fails
returns-clause-write_fails g c = beginnings_until_a_write_fails c.configurations_have_sizes.ensures
