use Rattle.std.proofs.Common.{◌^◌, refl}
use Rattle.byteorder.specs.Endian.{big_bytes}
use Rattle.gs_fields.proofs.Loops.{listed}
use Rattle.gs_fields.proofs.lists.put_long_list.Goals as goal

pub returns : goal.returns
returns g c =
    listed g.T.Field.plain g.T.Field.Is g.T.Field.written (big_bytes 8) (2 ^ 64) c.args.items.now _ c.args.out.now.items c.put.new.out.items c.put_items.new.out.items c.put_items.result
    c.in_ok-put.ensures.0 refl c.in_ok-put.ensures.1 c.put_items.ensures
