use Rattle.std.proofs.Common.{sym}
use Rattle.gs_store.proofs.Places.{within_reach}
use Rattle.gs_store.proofs.Changes.{absent, get_place}
use Rattle.gs_store.proofs.store.Store.slot.Goals as goal

pub index-requires : goal.index-requires
index-requires c = within_reach c.self.inside.slots _ c.args.handle c.in-Some.place.now c.self.invariant (sym c.in-Some.ensures.value)

pub returns-in-Some : goal.returns-in-Some
returns-in-Some c = sym (get_place _ _ _ _ c.self.inside.slots _ c.args.self.now c.self.view_is c.self.invariant c.args.handle c.in-Some.place.now c.in-Some.ensures.value _ c.index.ensures)

pub returns-in-None : goal.returns-in-None
returns-in-None c = sym (absent _ _ _ _ c.self.inside.slots _ c.args.self.now c.self.view_is c.self.invariant c.args.handle c.in-None.ensures.value)
