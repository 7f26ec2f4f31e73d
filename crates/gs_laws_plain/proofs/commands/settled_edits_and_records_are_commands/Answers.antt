use Rattle.gs_laws_plain.proofs.lemmas.commands.Steps.{steps_lead}
use Rattle.gs_laws_plain.proofs.commands.settled_edits_and_records_are_commands.Goals as goal

pub returns : goal.returns
returns c = steps_lead
