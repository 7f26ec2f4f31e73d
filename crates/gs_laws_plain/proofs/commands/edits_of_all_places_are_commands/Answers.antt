use Rattle.gs_laws_plain.proofs.lemmas.commands.Placed.{each_place, nothing_else, places_lead}
use Rattle.gs_laws_plain.proofs.commands.edits_of_all_places_are_commands.Goals as goal

pub returns-clause-lead : goal.returns-clause-lead
returns-clause-lead c = places_lead

pub returns-clause-each : goal.returns-clause-each
returns-clause-each c = each_place

pub returns-clause-only : goal.returns-clause-only
returns-clause-only c = nothing_else
