use Rattle.gs_fields.specs.Encoding.{stamp}
use Rattle.gs_fields.specs.Writable.{IsStamp}
use Rattle.gs_store_image.proofs.Options.{puts_seen}
use Rattle.gs_store_image.proofs.slot.put_taken.Goals as goal

pub returns : goal.returns
returns c = puts_seen IsStamp stamp c.args.taken c.args.out.now.items c.put.new.out.items c.put.result c.put.ensures
