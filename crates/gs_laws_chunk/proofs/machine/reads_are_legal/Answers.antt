use Rattle.gs_laws_chunk.proofs.lemmas.machine.Facts.{reached_world}
use Rattle.gs_laws_chunk.proofs.lemmas.machine.Reading as reading
use Rattle.gs_laws_chunk.proofs.lemmas.machine.Reading.{reached_reads}
use Rattle.gs_laws_chunk.proofs.machine.reads_are_legal.Goals as goal

pub returns : goal.returns
returns c = λ w last r leads. reading.reads_are_legal w (reached_world w r) (reached_reads w r) last leads
