use Rattle.gs_laws_plain.proofs.lemmas.commands.Files.{records_stand, texts_stand}
use Rattle.gs_laws_plain.proofs.commands.bytes_of_a_text_stand_in_its_file.Goals as goal

pub returns : goal.returns
returns c = record { texts = texts_stand; records = records_stand }
