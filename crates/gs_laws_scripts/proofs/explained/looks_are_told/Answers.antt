use Rattle.gs_laws_scripts.proofs.lemmas.explained.Asked.{lists_are_told, places_are_told, queries_are_told, statuses_are_told}
use Rattle.gs_laws_scripts.proofs.explained.looks_are_told.Goals as goal

pub returns-clause-lists : goal.returns-clause-lists
returns-clause-lists c = lists_are_told

pub returns-clause-queries : goal.returns-clause-queries
returns-clause-queries c = queries_are_told

pub returns-clause-statuses : goal.returns-clause-statuses
returns-clause-statuses c = statuses_are_told

pub returns-clause-places : goal.returns-clause-places
returns-clause-places c = places_are_told
