use Rattle.gs_keep_image.proofs.Again.{loaded}
use Rattle.gs_keep_image.proofs.promises.what_was_taken_is_loaded.Goals as goal

pub returns : goal.returns
returns c = loaded c.images_tell_parts.ensures c.refused_bytes_are_no_image.ensures
