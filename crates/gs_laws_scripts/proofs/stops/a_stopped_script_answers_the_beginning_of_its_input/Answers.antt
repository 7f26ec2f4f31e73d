use Rattle.gs_laws_scripts.proofs.lemmas.stops.Beginning.{answers_until_a_read_fails, answers_until_a_write_fails}
use Rattle.gs_laws_scripts.proofs.stops.a_stopped_script_answers_the_beginning_of_its_input.Goals as goal

pub returns-clause-read_fails : goal.returns-clause-read_fails
returns-clause-read_fails g c = answers_until_a_read_fails

pub returns-clause-write_fails : goal.returns-clause-write_fails
returns-clause-write_fails g c = answers_until_a_write_fails
