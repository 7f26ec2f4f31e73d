use Rattle.gs_parts_image.proofs.Stores.{store_again, store_takes}
use Rattle.gs_parts_image.proofs.promises.a_store_is_read_as_it_is_written.Goals as goal

pub returns-clause-again : goal.returns-clause-again
returns-clause-again c = store_again

pub returns-clause-takes : goal.returns-clause-takes
returns-clause-takes c = store_takes
