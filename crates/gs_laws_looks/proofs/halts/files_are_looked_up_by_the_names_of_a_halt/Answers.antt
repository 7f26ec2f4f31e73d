use Rattle.gs_laws_looks.proofs.lemmas.halts.Looked.{answers_are_by_names, looks_are_by_names}
use Rattle.gs_laws_looks.proofs.halts.files_are_looked_up_by_the_names_of_a_halt.Goals as goal

pub returns-clause-events : goal.returns-clause-events
returns-clause-events g c = looks_are_by_names

pub returns-clause-answers : goal.returns-clause-answers
returns-clause-answers g c = answers_are_by_names
