use Rattle.gs_laws_scripts.proofs.lemmas.explained.Looked.{places_told_there, statuses_told_there}
use Rattle.gs_laws_scripts.proofs.explained.looks_are_told_where_a_desk_stands.Goals as goal

pub returns-clause-statuses : goal.returns-clause-statuses
returns-clause-statuses g c = statuses_told_there

pub returns-clause-places : goal.returns-clause-places
returns-clause-places g c = places_told_there
