use Rattle.gs_laws_scripts.proofs.lemmas.explained.Scripted.{scripts_of_the_tree, until_a_read_fails, until_a_write_fails}
use Rattle.gs_laws_scripts.proofs.explained.scripts_of_the_tree_are_explained.Goals as goal

pub returns-clause-ended : goal.returns-clause-ended
returns-clause-ended g c = scripts_of_the_tree

pub returns-clause-read_fails : goal.returns-clause-read_fails
returns-clause-read_fails g c = until_a_read_fails

pub returns-clause-write_fails : goal.returns-clause-write_fails
returns-clause-write_fails g c = until_a_write_fails
