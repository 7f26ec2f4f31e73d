use Rattle.std.proofs.Common.{sym, subst}
use Rattle.gs_base.specs.Calls.{Does}
use Rattle.gs_store.specs.Slots as slots
use Rattle.gs_store.proofs.Places.{within_reach}
use Rattle.gs_store.proofs.Changes.{does_at, absent, absent_does, nothing_drops}
use Rattle.gs_store.proofs.store.Store.drop_replica.Goals as goal

pub index_mut-requires : goal.index_mut-requires
index_mut-requires c = within_reach c.self.inside.slots _ c.args.handle c.in-Some.place.now c.self.invariant (sym c.in-Some.ensures.value)

pub returns : goal.returns
returns c =
    does_at _ _ _ _ c.self.inside.slots _ c.args.self.now c.self.view_is c.self.invariant c.args.handle c.in-Some.place.now c.in-Some.ensures.value
    _ c.index_mut.ensures.value (slots.drop_replica c.args.promise) _ c.drop_replica.result _ c.drop_replica.ensures

pub returns-in_default : goal.returns-in_default
returns-in_default c =
    absent_does c.args.self.now c.args.handle (slots.drop_replica c.args.promise) (absent _ _ _ _ c.self.inside.slots _ c.args.self.now c.self.view_is c.self.invariant c.args.handle c.in_default.ensures.value) _ c.drop_replica-dropped.result _ (nothing_drops c.args.promise)
    (subst (λ t. Does {B = Unit {0}} (slots.drop_replica c.args.promise t) c.drop_replica-dropped.result t c.drop_replica-dropped.new.self) c.new-empty.ensures c.drop_replica-dropped.ensures)
