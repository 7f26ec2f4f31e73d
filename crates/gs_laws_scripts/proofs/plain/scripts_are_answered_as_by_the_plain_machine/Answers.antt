use Rattle.gs_laws_scripts.proofs.lemmas.plain.Answering.{scripts_are_plain}
use Rattle.gs_laws_scripts.proofs.lemmas.plain.Stopping.{are_plain_until_a_read_fails, are_plain_until_a_write_fails}
use Rattle.gs_laws_scripts.proofs.plain.scripts_are_answered_as_by_the_plain_machine.Goals as goal

pub returns-clause-ended : goal.returns-clause-ended
returns-clause-ended g c = scripts_are_plain

pub returns-clause-read_fails : goal.returns-clause-read_fails
returns-clause-read_fails g c = are_plain_until_a_read_fails

pub returns-clause-write_fails : goal.returns-clause-write_fails
returns-clause-write_fails g c = are_plain_until_a_write_fails
