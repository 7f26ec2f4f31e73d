use Rattle.std.proofs.Common.{◌≡◌, ◌++◌, subst}
use Rattle.gs_base.specs.declared.numbers.Stamp.{Stamp}
use Rattle.gs_fields.specs.Encoding.{stamp}
use Rattle.gs_fields.specs.Writable.{IsStamp}
use Rattle.gs_fields.proofs.Steps.{puts_two}
use Rattle.gs_store_image.specs.StoreEncoding.{slot_carried}
use Rattle.gs_store_image.specs.StoreWritable.{IsSlotCarried}
use Rattle.gs_store_image.proofs.slot.put_slot.Goals as goal

pub returns : goal.returns
returns c =
    let s = c.args.slot.now in
    puts_two (IsStamp s.promise) (IsSlotCarried s) (stamp s.promise) (slot_carried s) c.args.out.now.items c.put.new.out.items c.put_slot_carried.new.out.items c.put_slot_carried.result
    (subst (λ (t : Stamp). IsStamp t × (c.put.new.out.items ≡ c.args.out.now.items ++ stamp t)) c.promised.ensures c.in_ok-put.ensures) c.put_slot_carried.ensures
