use Rattle.gs_store_image.proofs.Options.{decodes_seen}
use Rattle.gs_store_image.proofs.slot.read_taken.Goals as goal

pub returns : goal.returns
returns c = decodes_seen c.read.result c.read.new.cursor.rest.now _ c.read.ensures
