use Rattle.gs_store_image.proofs.InMemory.{slot_held}
use Rattle.gs_store_image.proofs.held.is_slot_held.Goals as goal

pub returns : goal.returns
returns c = slot_held c.args.slot.now c.is_live_held.ensures c.is_trash_held.ensures
