use Rattle.gs_image.proofs.Refusing.{is_read}
use Rattle.gs_image.proofs.promises.what_was_written_is_read.Goals as goal

pub returns : goal.returns
returns c = is_read
