use Rattle.gs_fields.specs.Encoding.{option}
use Rattle.gs_fields.specs.Writable.{IsOption}
use Rattle.gs_fields.proofs.Steps.{puts_two}
use Rattle.gs_store_image.specs.StoreEncoding.{live, slot_rest}
use Rattle.gs_store_image.specs.StoreWritable.{IsLiveTold, IsSlotRest}
use Rattle.gs_store_image.proofs.slot.put_slot_replicas.Goals as goal

pub returns : goal.returns
returns c =
    let s = c.args.slot.now in
    puts_two (IsOption IsLiveTold s.live) (IsSlotRest s) (option live s.live) (slot_rest s) c.args.out.now.items c.put_live_of.new.out.items c.put_slot_rest.new.out.items c.put_slot_rest.result
    c.in_ok-put_live_of.ensures c.put_slot_rest.ensures
