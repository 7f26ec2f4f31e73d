use Rattle.gs_laws_moves.proofs.lemmas.looks.Looks.{locations_answered, locations_tell, statuses_answered, statuses_tell}
use Rattle.gs_laws_moves.proofs.looks.files_are_looked_up_by_names_and_views.Goals as goal

pub returns-clause-statuses : goal.returns-clause-statuses
returns-clause-statuses c = statuses_answered

pub returns-clause-files : goal.returns-clause-files
returns-clause-files c = statuses_tell

pub returns-clause-locations : goal.returns-clause-locations
returns-clause-locations c = locations_answered

pub returns-clause-chunks : goal.returns-clause-chunks
returns-clause-chunks c = locations_tell
