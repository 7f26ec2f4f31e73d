use Rattle.gs_base.specs.Told.{IsNumber}
use Rattle.gs_fields.specs.Encoding.{number}
use Rattle.gs_store_image.proofs.Options.{puts_seen}
use Rattle.gs_store_image.proofs.slot.put_bad.Goals as goal

pub returns : goal.returns
returns c = puts_seen IsNumber number c.args.bad c.args.out.now.items c.put.new.out.items c.put.result c.put.ensures
