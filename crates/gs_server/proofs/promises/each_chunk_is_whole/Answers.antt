use Rattle.gs_server.proofs.Wholes.{each_whole}
use Rattle.gs_server.proofs.promises.each_chunk_is_whole.Goals as goal

pub returns : goal.returns
returns c = λ handle s r. each_whole handle s r
