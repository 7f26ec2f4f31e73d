use Rattle.gs_image.proofs.Refusing.{no_image}
use Rattle.gs_image.proofs.promises.refused_bytes_are_no_image.Goals as goal

pub returns : goal.returns
returns c = no_image
