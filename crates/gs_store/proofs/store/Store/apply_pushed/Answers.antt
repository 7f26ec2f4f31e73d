use Rattle.std.proofs.Common.{sym, ap, refl, ◌∙◌}
use Rattle.gs_store.specs.Buffers.{pushed}
use Rattle.gs_store.specs.Serving as serving
use Rattle.gs_store.proofs.Places.{within_reach, stays_placed}
use Rattle.gs_store.proofs.Changes.{follows_at, judged_at, absent, absent_refused, does_follows, absent_judged, get_place}
use Rattle.gs_store.proofs.Used.{refused_with, applied_with, judged_with, not_refused, still_refused, is_there}
use Rattle.gs_store.proofs.store.Store.apply_pushed.Goals as goal

pub index_mut-requires : goal.index_mut-requires
index_mut-requires c = within_reach c.self.inside.slots _ c.args.handle c.in-Some-get.place.now c.self.invariant (sym c.in-Some-get.ensures.value)

pub returns-in_default-get-clause-edit : goal.returns-in_default-get-clause-edit
returns-in_default-get-clause-edit c =
    refused_with c.args.handle c.args.stamp c.args.number c.args.req c.args.op _ c.args.self.now (c.in-Some.ensures ∙ ap (λ s. pushed c.args.req s.buffer) c.self.view_is) (Unit {0}) _ _ _
    (does_follows _ _ _ _ _ _ (absent_refused c.args.self.now c.args.handle (serving.apply c.args.stamp c.args.number c.args.req c.args.op c.in-Some.bytes.now)
    (absent _ _ _ _ c.self.inside.slots _ c.args.self.now c.self.view_is c.self.invariant c.args.handle c.in_default-get.ensures.value) _ _ refl))

pub returns-in_default-get-clause-judged : goal.returns-in_default-get-clause-judged
returns-in_default-get-clause-judged c =
    judged_with c.args.handle c.args.stamp c.args.number c.args.req c.args.op _ c.args.self.now (c.in-Some.ensures ∙ ap (λ s. pushed c.args.req s.buffer) c.self.view_is) _ _
    (absent_judged c.args.self.now c.args.handle (λ t. serving.foreseen c.args.stamp c.args.number c.args.req c.args.op c.in-Some.bytes.now t.live) _ _
    (absent _ _ _ _ c.self.inside.slots _ c.args.self.now c.self.view_is c.self.invariant c.args.handle c.in_default-get.ensures.value) refl)

pub invariant_of-self : goal.invariant_of-self
invariant_of-self c = stays_placed _ c.self.inside.slots.items c.in-Some-get.place.now c.apply.new.self c.self.invariant

pub returns-in-Err-clause-edit : goal.returns-in-Err-clause-edit
returns-in-Err-clause-edit c =
    refused_with c.args.handle c.args.stamp c.args.number c.args.req c.args.op _ c.args.self.now (c.in-Some.ensures ∙ ap (λ s. pushed c.args.req s.buffer) c.self.view_is) (Unit {0}) _ _ _
    (follows_at _ _ _ _ c.self.inside.slots _ c.args.self.now c.self.view_is c.self.invariant c.args.handle c.in-Some-get.place.now c.in-Some-get.ensures.value
    _ c.index_mut.ensures.value (serving.apply c.args.stamp c.args.number c.args.req c.args.op c.in-Some.bytes.now) _ _ _ c.in-Err.ensures.edit)

pub returns-in-Err-clause-judged : goal.returns-in-Err-clause-judged
returns-in-Err-clause-judged c =
    still_refused (Unit {0}) _ _ _ (judged_with c.args.handle c.args.stamp c.args.number c.args.req c.args.op _ c.args.self.now (c.in-Some.ensures ∙ ap (λ s. pushed c.args.req s.buffer) c.self.view_is) _ _
    (judged_at c.args.self.now c.args.handle (λ t. serving.foreseen c.args.stamp c.args.number c.args.req c.args.op c.in-Some.bytes.now t.live) (Unit {0}) _ _
    (get_place _ _ _ _ c.self.inside.slots _ c.args.self.now c.self.view_is c.self.invariant c.args.handle c.in-Some-get.place.now c.in-Some-get.ensures.value _ c.index_mut.ensures.value) c.in-Err.ensures.judged))

pub unwrap-requires : goal.unwrap-requires
unwrap-requires c = is_there (λ b. b.items) c.take.result _ (c.take.ensures.taken ∙ sym c.in-Some.ensures)

pub returns-clause-edit : goal.returns-clause-edit
returns-clause-edit c =
    rw c.take.ensures.without
    (applied_with c.args.handle c.args.stamp c.args.number c.args.req c.args.op _ c.args.self.now (c.in-Some.ensures ∙ ap (λ s. pushed c.args.req s.buffer) c.self.view_is) (Unit {0}) _ tt c.unwrap.result _
    (follows_at _ _ _ _ c.self.inside.slots _ c.args.self.now c.self.view_is c.self.invariant c.args.handle c.in-Some-get.place.now c.in-Some-get.ensures.value
    _ c.index_mut.ensures.value (serving.apply c.args.stamp c.args.number c.args.req c.args.op c.in-Some.bytes.now) _ _ _ c.in_default-apply.ensures.edit))

pub returns-clause-judged : goal.returns-clause-judged
returns-clause-judged c =
    not_refused (Unit {0}) _ _ tt c.unwrap.result (judged_with c.args.handle c.args.stamp c.args.number c.args.req c.args.op _ c.args.self.now (c.in-Some.ensures ∙ ap (λ s. pushed c.args.req s.buffer) c.self.view_is) _ _
    (judged_at c.args.self.now c.args.handle (λ t. serving.foreseen c.args.stamp c.args.number c.args.req c.args.op c.in-Some.bytes.now t.live) (Unit {0}) _ _
    (get_place _ _ _ _ c.self.inside.slots _ c.args.self.now c.self.view_is c.self.invariant c.args.handle c.in-Some-get.place.now c.in-Some-get.ensures.value _ c.index_mut.ensures.value) c.in_default-apply.ensures.judged))
