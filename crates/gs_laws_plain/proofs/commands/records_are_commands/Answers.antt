use Rattle.gs_laws_plain.proofs.lemmas.commands.Records.{each_record, records_lead}
use Rattle.gs_laws_plain.proofs.commands.records_are_commands.Goals as goal

pub returns : goal.returns
returns c = record { each = each_record; all = records_lead }
