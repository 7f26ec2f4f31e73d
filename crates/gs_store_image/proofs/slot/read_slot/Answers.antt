use Rattle.gs_store_image.proofs.Stores.{slot_read, slot_unread}
use Rattle.gs_store_image.proofs.slot.read_slot.Goals as goal

pub returns-in-Ok : goal.returns-in-Ok
returns-in-Ok c =
    slot_read c.args.sizes.block c.args.sizes.chunk _ _ _ _ _ _ c.in_ok-promise.promise c.in_ok-carried.carried c.in_ok-live.live c.in_ok-trash.trash c.in_ok-taken.taken c.in-Ok.slot c.in_ok-promise.ensures c.in_ok-carried.ensures c.in_ok-live.ensures c.in_ok-trash.ensures c.in_ok-taken.ensures c.in-Ok.ensures

pub returns-in-Err : goal.returns-in-Err
returns-in-Err c =
    slot_unread c.args.sizes.block c.args.sizes.chunk _ _ _ _ _ _ c.in_ok-promise.promise c.in_ok-carried.carried c.in_ok-live.live c.in_ok-trash.trash c.in_ok-taken.taken c.in-Err._refusal c.in_ok-promise.ensures c.in_ok-carried.ensures c.in_ok-live.ensures c.in_ok-trash.ensures c.in_ok-taken.ensures c.in-Err.ensures
