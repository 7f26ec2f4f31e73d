use Rattle.std.proofs.Common.{sym, refl}
use Rattle.gs_store.specs.Slots as slots
use Rattle.gs_store.proofs.Places.{within_reach}
use Rattle.gs_store.proofs.Changes.{does_at, absent, absent_refused}
use Rattle.gs_store.proofs.store.Store.damage.Goals as goal

pub index_mut-requires : goal.index_mut-requires
index_mut-requires c = within_reach c.self.inside.slots _ c.args.handle c.in-Some.place.now c.self.invariant (sym c.in-Some.ensures.value)

pub returns : goal.returns
returns c =
    does_at _ _ _ _ c.self.inside.slots _ c.args.self.now c.self.view_is c.self.invariant c.args.handle c.in-Some.place.now c.in-Some.ensures.value
    _ c.index_mut.ensures.value (slots.damage c.args.block) _ c.damage.result _ c.damage.ensures

pub returns-in_default : goal.returns-in_default
returns-in_default c = absent_refused c.args.self.now c.args.handle (slots.damage c.args.block) (absent _ _ _ _ c.self.inside.slots _ c.args.self.now c.self.view_is c.self.invariant c.args.handle c.in_default.ensures.value) _ _ refl
