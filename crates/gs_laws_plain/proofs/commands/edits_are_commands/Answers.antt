use Rattle.gs_laws_plain.proofs.lemmas.commands.Edits.{edits_lead}
use Rattle.gs_laws_plain.proofs.commands.edits_are_commands.Goals as goal

pub returns : goal.returns
returns c = edits_lead
