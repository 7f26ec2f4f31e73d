use Rattle.std.proofs.Common.{sym}
use Rattle.gs_store.specs.Moves as moves
use Rattle.gs_store.proofs.Places.{within_reach, stays_placed}
use Rattle.gs_store.proofs.Changes.{does_at, does_performs, absent}
use Rattle.gs_store.proofs.store.Store.put_copy.Goals as goal

pub put_first_copy-requires : goal.put_first_copy-requires
put_first_copy-requires c = absent _ _ _ _ c.self.inside.slots _ c.args.self.now c.self.view_is c.self.invariant c.args.handle c.in_default.ensures.value

pub index_mut-requires : goal.index_mut-requires
index_mut-requires c = within_reach c.self.inside.slots _ c.args.handle c.in-Some.place.now c.self.invariant (sym c.in-Some.ensures.value)

pub invariant_of-self : goal.invariant_of-self
invariant_of-self c = stays_placed _ c.self.inside.slots.items c.in-Some.place.now c.take_copy.new.self c.self.invariant

pub returns : goal.returns
returns c =
    does_performs _ _ _ c.take_copy.result _ _
    (does_at _ _ _ _ c.self.inside.slots _ c.args.self.now c.self.view_is c.self.invariant c.args.handle c.in-Some.place.now c.in-Some.ensures.value
    _ c.index_mut.ensures.value (moves.take_copy c.args.copy) _ c.take_copy.result _ c.take_copy.ensures)
