use Rattle.std.proofs.Common.{sym, ap}
use Rattle.std.specs.Prelude.{option_map}
use Rattle.gs_store.specs.Slots as slots
use Rattle.gs_store.specs.Stores.{set_slot}
use Rattle.gs_store.proofs.Places.{within_reach}
use Rattle.gs_store.proofs.Changes.{marked_at, absent}
use Rattle.gs_store.proofs.store.Store.mark_bad.Goals as goal

pub index_mut-requires : goal.index_mut-requires
index_mut-requires c = within_reach c.self.inside.slots _ c.args.handle c.in-Some.place.now c.self.invariant (sym c.in-Some.ensures.value)

pub returns-in-Some : goal.returns-in-Some
returns-in-Some c =
    marked_at _ _ _ _ c.self.inside.slots _ c.args.self.now c.self.view_is c.self.invariant c.args.handle c.in-Some.place.now c.in-Some.ensures.value
    _ c.index_mut.ensures.value c.args.block _ c.mark_bad.ensures

pub returns-in_default : goal.returns-in_default
returns-in_default c =
    sym (ap (λ o. set_slot c.args.handle c.args.self.now (option_map (slots.mark_bad c.args.block) o)) (absent _ _ _ _ c.self.inside.slots _ c.args.self.now c.self.view_is c.self.invariant c.args.handle c.in_default.ensures.value))
