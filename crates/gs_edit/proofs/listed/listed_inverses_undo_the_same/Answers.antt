use Rattle.gs_edit.proofs.Relisted.{relisted, list_is_one, list_is_short}
use Rattle.gs_edit.proofs.listed.listed_inverses_undo_the_same.Goals as goal

pub returns-clause-list : goal.returns-clause-list
returns-clause-list c i list h short = list_is_one i list h short

pub returns-clause-same : goal.returns-clause-same
returns-clause-same c i j list h k = relisted i j list h k

pub returns-clause-short : goal.returns-clause-short
returns-clause-short c i list old new back within h = list_is_short i list old new back within h
