use Rattle.gs_image.proofs.Refusing.{tell_parts}
use Rattle.gs_image.proofs.promises.images_tell_parts.Goals as goal

pub returns : goal.returns
returns c = tell_parts
