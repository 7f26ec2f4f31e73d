use Rattle.gs_keep.proofs.Lines.{memory_is}
use Rattle.gs_keep.proofs.batch.text_of.Goals as goal

pub returns-in-Err-clause-err : goal.returns-in-Err-clause-err
returns-in-Err-clause-err c = rw c.in-Err.is memory_is
