use Rattle.std.proofs.Common.{◌≡◌, Ok, Err, None, sym, subst}
use Rattle.gs_base.specs.declared.refusal.Refusal.TheVariants.{Memory}
use Rattle.std.specs.FinMap as fin
use Rattle.gs_base.specs.Calls.{Does}
use Rattle.gs_store.specs.Slots as slots
use Rattle.gs_store.proofs.Places.{within_reach}
use Rattle.gs_store.proofs.Changes.{does_at, does_performs, absent, new_refused, new_kept, if_err}
use Rattle.gs_store.proofs.store.Store.create.Goals as goal

pub index_mut-requires : goal.index_mut-requires
index_mut-requires c = within_reach c.self.inside.slots _ c.args.handle c.in-Some.place.now c.self.invariant (sym c.in-Some.ensures.value)

pub add-requires : goal.add-requires
add-requires c = absent _ _ _ _ c.self.inside.slots _ c.args.self.now c.self.view_is c.self.invariant c.args.handle c.in_default.ensures.value

pub returns-in-Err-clause-edit : goal.returns-in-Err-clause-edit
returns-in-Err-clause-edit c =
    new_refused c.args.self.now c.args.handle (slots.create c.args.self.now.block c.args.self.now.chunk c.args.stamp)
    (absent _ _ _ _ c.self.inside.slots _ c.args.self.now c.self.view_is c.self.invariant c.args.handle c.in_default.ensures.value) (Unit {0}) _ _ c.create.new.self
    (subst (λ t. Does {B = Unit {0}} (slots.create c.args.self.now.block c.args.self.now.chunk c.args.stamp t) (Err c.in-Err.refusal) t c.create.new.self) c.new-slot.ensures
    (subst (λ s. Does {B = Unit {0}} (slots.create s.block s.chunk c.args.stamp c.new-slot.result) (Err c.in-Err.refusal) c.new-slot.result c.create.new.self) c.self.view_is c.in-Err.ensures))

pub returns-in_default-clause-edit : goal.returns-in_default-clause-edit
returns-in_default-clause-edit c =
    new_kept c.args.self.now c.args.handle (slots.create c.args.self.now.block c.args.self.now.chunk c.args.stamp)
    (absent _ _ _ _ c.self.inside.slots _ c.args.self.now c.self.view_is c.self.invariant c.args.handle c.in_default.ensures.value) (Unit {0}) _ c.in_default-create.field-0 c.add.result c.create.new.self c.add.new.self
    (subst (λ t. Does {B = Unit {0}} (slots.create c.args.self.now.block c.args.self.now.chunk c.args.stamp t) (Ok c.in_default-create.field-0) t c.create.new.self) c.new-slot.ensures
    (subst (λ s. Does {B = Unit {0}} (slots.create s.block s.chunk c.args.stamp c.new-slot.result) (Ok c.in_default-create.field-0) c.new-slot.result c.create.new.self) c.self.view_is c.in_default-create.ensures))
    c.add.ensures.ok c.add.ensures.err c.add.ensures.memory

pub returns-in_default-clause-lacking : goal.returns-in_default-clause-lacking
returns-in_default-clause-lacking c =
    if_err _ _ c.add.result (λ e. e ≡ Memory → fin.get c.args.self.now.slots c.args.handle ≡ None) (λ e is. absent _ _ _ _ c.self.inside.slots _ c.args.self.now c.self.view_is c.self.invariant c.args.handle c.in_default.ensures.value)

pub returns-clause-edit : goal.returns-clause-edit
returns-clause-edit c =
    does_performs _ _ _ c.create-2.result _ _
    (does_at _ _ _ _ c.self.inside.slots _ c.args.self.now c.self.view_is c.self.invariant c.args.handle c.in-Some.place.now c.in-Some.ensures.value
    _ c.index_mut.ensures.value (slots.create c.args.self.now.block c.args.self.now.chunk c.args.stamp) _ c.create-2.result _
    (subst (λ s. Does {B = Unit {0}} (slots.create s.block s.chunk c.args.stamp c.index_mut.result.now) c.create-2.result c.index_mut.result.now c.create-2.new.self) c.self.view_is c.create-2.ensures))
