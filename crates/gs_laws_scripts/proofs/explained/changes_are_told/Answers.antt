use Rattle.gs_laws_scripts.proofs.lemmas.explained.Changes.{changes_are_told}
use Rattle.gs_laws_scripts.proofs.lemmas.explained.Changing.{changes_are_explained_there}
use Rattle.gs_laws_scripts.proofs.explained.changes_are_told.Goals as goal

pub returns-clause-turns : goal.returns-clause-turns
returns-clause-turns g c = changes_are_told

pub returns-clause-there : goal.returns-clause-there
returns-clause-there g c = changes_are_explained_there
