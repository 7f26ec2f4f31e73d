use Rattle.std.proofs.Common.{sym, refl}
use Rattle.gs_store.specs.Serving as serving
use Rattle.gs_store.proofs.Places.{within_reach}
use Rattle.gs_store.proofs.Changes.{follows_at, judged_at, absent, absent_refused, does_follows, absent_judged, get_place}
use Rattle.gs_store.proofs.store.Store.apply.Goals as goal

pub index_mut-requires : goal.index_mut-requires
index_mut-requires c = within_reach c.self.inside.slots _ c.args.handle c.in-Some.place.now c.self.invariant (sym c.in-Some.ensures.value)

pub returns-clause-edit : goal.returns-clause-edit
returns-clause-edit c =
    follows_at _ _ _ _ c.self.inside.slots _ c.args.self.now c.self.view_is c.self.invariant c.args.handle c.in-Some.place.now c.in-Some.ensures.value
    _ c.index_mut.ensures.value (serving.apply c.args.stamp c.args.number c.args.req c.args.op c.args.bytes.now) _ c.apply.result _ c.apply.ensures.edit

pub returns-clause-judged : goal.returns-clause-judged
returns-clause-judged c =
    judged_at c.args.self.now c.args.handle (λ t. serving.foreseen c.args.stamp c.args.number c.args.req c.args.op c.args.bytes.now t.live) _ c.apply.result _ (get_place _ _ _ _ c.self.inside.slots _ c.args.self.now c.self.view_is c.self.invariant c.args.handle c.in-Some.place.now c.in-Some.ensures.value
    _ c.index_mut.ensures.value) c.apply.ensures.judged

pub returns-in_default-clause-edit : goal.returns-in_default-clause-edit
returns-in_default-clause-edit c =
    does_follows _ _ _ _ _ _ (absent_refused c.args.self.now c.args.handle (serving.apply c.args.stamp c.args.number c.args.req c.args.op c.args.bytes.now) (absent _ _ _ _ c.self.inside.slots _ c.args.self.now c.self.view_is c.self.invariant c.args.handle c.in_default.ensures.value) _ _ refl)

pub returns-in_default-clause-judged : goal.returns-in_default-clause-judged
returns-in_default-clause-judged c = absent_judged c.args.self.now c.args.handle (λ t. serving.foreseen c.args.stamp c.args.number c.args.req c.args.op c.args.bytes.now t.live) _ _ (absent _ _ _ _ c.self.inside.slots _ c.args.self.now c.self.view_is c.self.invariant c.args.handle c.in_default.ensures.value) refl
