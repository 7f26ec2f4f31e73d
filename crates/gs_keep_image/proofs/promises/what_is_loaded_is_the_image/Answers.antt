use Rattle.gs_keep_image.proofs.Again.{told}
use Rattle.gs_keep_image.proofs.promises.what_is_loaded_is_the_image.Goals as goal

pub returns : goal.returns
returns c = told c.a_store_is_read_as_it_is_written.ensures.takes
