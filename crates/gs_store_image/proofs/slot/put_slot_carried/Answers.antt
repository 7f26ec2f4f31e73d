use Rattle.std.proofs.Common.{◌≡◌, Bool, ◌++◌, subst}
use Rattle.gs_fields.specs.Encoding.{flag}
use Rattle.gs_fields.proofs.Steps.{puts_two}
use Rattle.gs_store_image.specs.StoreEncoding.{slot_replicas}
use Rattle.gs_store_image.specs.StoreWritable.{IsFlag, AreSlotReplicas}
use Rattle.gs_store_image.proofs.slot.put_slot_carried.Goals as goal

pub returns : goal.returns
returns c =
    let s = c.args.slot.now in
    puts_two (IsFlag s.carried) (AreSlotReplicas s) (flag s.carried) (slot_replicas s) c.args.out.now.items c.put.new.out.items c.put_slot_replicas.new.out.items c.put_slot_replicas.result
    (subst (λ (b : Bool). IsFlag b × (c.put.new.out.items ≡ c.args.out.now.items ++ flag b)) c.is_carried.ensures c.in_ok-put.ensures) c.put_slot_replicas.ensures
