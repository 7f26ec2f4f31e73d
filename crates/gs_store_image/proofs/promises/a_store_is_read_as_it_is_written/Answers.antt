use Rattle.gs_store_image.proofs.Stores.{reads_store}
use Rattle.gs_store_image.proofs.promises.a_store_is_read_as_it_is_written.Goals as goal

pub returns : goal.returns
returns c = reads_store
