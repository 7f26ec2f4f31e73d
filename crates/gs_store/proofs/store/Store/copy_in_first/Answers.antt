use Rattle.std.proofs.Common.{Ok, Err, ap, subst, ◌∙◌, length}
use Rattle.gs_base.specs.Calls.{FollowsOf}
use Rattle.gs_store.specs.Moves as moves
use Rattle.gs_store.proofs.Changes.{same_room, pushed_items, grown_placed, grown_is, new_handed_back, new_of}
use Rattle.gs_store.proofs.store.Store.copy_in_first.Goals as goal

pub returns-in-Err-copy_in-clause-edit : goal.returns-in-Err-copy_in-clause-edit
returns-in-Err-copy_in-clause-edit c =
    new_handed_back c.args.self.now c.args.handle (moves.copy_in c.args.self.now.block c.args.self.now.chunk c.args.stamp c.args.given.image c.args.given.sealed) c.requires (Unit {0}) _ c.args.given c.in-Err-copy_in.refused c.copy_in.new.self _
    (subst (λ t. FollowsOf {B = Unit {0}} c.args.given (moves.copy_in c.args.self.now.block c.args.self.now.chunk c.args.stamp c.args.given.image c.args.given.sealed t) (Err c.in-Err-copy_in.refused) t c.copy_in.new.self) c.new-slot.ensures
    (subst (λ s. FollowsOf {B = Unit {0}} c.args.given (moves.copy_in s.block s.chunk c.args.stamp c.args.given.image c.args.given.sealed c.new-slot.result) (Err c.in-Err-copy_in.refused) c.new-slot.result c.copy_in.new.self) c.self.view_is c.in-Err-copy_in.ensures.edit))
    (same_room _ _ _ _ _ _ c.self.inside.slots.items _ c.args.self.now c.reserve.ensures.same c.reserve-2.ensures.items c.self.view_is)

pub invariant_of-self-2 : goal.invariant_of-self-2
invariant_of-self-2 c =
    grown_placed _ _ _ _ c.self.inside.slots _ c.args.self.now c.self.view_is c.self.invariant c.args.handle c.copy_in.new.self _ _ _ _
    c.requires c.put.ensures.put c.reserve.ensures.same (c.len-place.ensures ∙ c.reserve-2.new.self.ok.0 ∙ ap length c.reserve-2.ensures.items)
    (pushed_items _ _ c.push.result _ c.push.new.self.items c.reserve-2.new.self.items c.self.inside.slots.items c.copy_in.new.self c.push.ensures.items c.unwrap.ensures c.reserve-2.ensures.items)

pub returns-clause-edit : goal.returns-clause-edit
returns-clause-edit c =
    new_of c.args.self.now c.args.handle (moves.copy_in c.args.self.now.block c.args.self.now.chunk c.args.stamp c.args.given.image c.args.given.sealed) c.requires (Unit {0}) _ c.args.given c.in_default-copy_in.field-0 c.copy_in.new.self _
    (subst (λ t. FollowsOf {B = Unit {0}} c.args.given (moves.copy_in c.args.self.now.block c.args.self.now.chunk c.args.stamp c.args.given.image c.args.given.sealed t) (Ok c.in_default-copy_in.field-0) t c.copy_in.new.self) c.new-slot.ensures
    (subst (λ s. FollowsOf {B = Unit {0}} c.args.given (moves.copy_in s.block s.chunk c.args.stamp c.args.given.image c.args.given.sealed c.new-slot.result) (Ok c.in_default-copy_in.field-0) c.new-slot.result c.copy_in.new.self) c.self.view_is c.in_default-copy_in.ensures.edit))
    (grown_is _ _ _ _ c.self.inside.slots _ c.args.self.now c.self.view_is c.self.invariant c.args.handle c.copy_in.new.self _ _ _ _
    c.requires c.put.ensures.put c.reserve.ensures.same (c.len-place.ensures ∙ c.reserve-2.new.self.ok.0 ∙ ap length c.reserve-2.ensures.items)
    (pushed_items _ _ c.push.result _ c.push.new.self.items c.reserve-2.new.self.items c.self.inside.slots.items c.copy_in.new.self c.push.ensures.items c.unwrap.ensures c.reserve-2.ensures.items))
