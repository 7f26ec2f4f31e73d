use Rattle.gs_store_image.proofs.InMemory.{store_held}
use Rattle.gs_store_image.proofs.held.is_store_held.Goals as goal

pub returns : goal.returns
returns c = store_held c.args.store.now c.are_slots_held.ensures
