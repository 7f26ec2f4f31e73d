use Rattle.gs_laws_parts.proofs.lemmas.server.About.{about_answering}
use Rattle.gs_laws_parts.proofs.server.a_message_about_a_chunk_is_steps_of_its_machine.Goals as goal

pub returns : goal.returns
returns c = λ bytes born w h p from chunk here told whole right says tells. about_answering bytes born w h p here told whole from chunk right says tells
