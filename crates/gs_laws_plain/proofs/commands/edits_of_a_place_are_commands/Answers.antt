use Rattle.gs_laws_plain.proofs.lemmas.commands.OnePlace.{many_edits, one_edit}
use Rattle.gs_laws_plain.proofs.commands.edits_of_a_place_are_commands.Goals as goal

pub returns-clause-one : goal.returns-clause-one
returns-clause-one c = one_edit

pub returns-clause-all : goal.returns-clause-all
returns-clause-all c = many_edits
