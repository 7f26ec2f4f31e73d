use Rattle.std.proofs.Common.{◌∙◌}
use Rattle.gs_store.proofs.Changes.{grown_placed, grown_is}
use Rattle.gs_store.proofs.store.Store.add.Goals as goal

pub invariant_of-self-2 : goal.invariant_of-self-2
invariant_of-self-2 c =
    grown_placed _ _ _ _ c.self.inside.slots _ c.args.self.now c.self.view_is c.self.invariant c.args.handle c.args.slot _ _ _ _
    c.requires c.put.ensures.put c.in_ok-reserve.ensures.same (c.len-place.ensures ∙ c.self.inside.slots.ok.0) c.in_ok-push.ensures.items

pub returns-clause-ok : goal.returns-clause-ok
returns-clause-ok c =
    grown_is _ _ _ _ c.self.inside.slots _ c.args.self.now c.self.view_is c.self.invariant c.args.handle c.args.slot _ _ _ _
    c.requires c.put.ensures.put c.in_ok-reserve.ensures.same (c.len-place.ensures ∙ c.self.inside.slots.ok.0) c.in_ok-push.ensures.items
