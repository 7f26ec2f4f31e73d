use Rattle.std.proofs.Common.{None, ◌≡◌, IsSome, ap, refl, subst, sym, ◌∙◌}
use Rattle.std.specs.FinMap as fin
use Rattle.std.specs.Option.{option_flatten}
use Rattle.gs_base_table.specs.Slots.{IsWritten, live}
use Rattle.gs_base_table.proofs.Lives.{find-lookup, get-live, keeps_written, live_absent, live_written, written_by}
use Rattle.gs_base_table.proofs.table.Table.take.Goals as goal

pub returns-in_default-clause-value : goal.returns-in_default-clause-value
returns-in_default-clause-value g c =
    let none : fin.find g.K.Ord.cmp c.args.key c.args.self.now ≡ None = sym (ap (λ es. fin.find g.K.Ord.cmp c.args.key es) c.self.view_is) ∙ find-lookup g.met.K.Ord.total c.self.inside.slots.entries c.args.key ∙ sym c.in_default.ensures.value in
    sym (get-live g.met.K.Ord.total c.args.self.now c.args.key ∙ ap option_flatten none)

pub returns-in_default-clause-taken : goal.returns-in_default-clause-taken
returns-in_default-clause-taken g c =
    let none : fin.find g.K.Ord.cmp c.args.key c.args.self.now ≡ None = sym (ap (λ es. fin.find g.K.Ord.cmp c.args.key es) c.self.view_is) ∙ find-lookup g.met.K.Ord.total c.self.inside.slots.entries c.args.key ∙ sym c.in_default.ensures.value in
    let same : c.get_mut.follows.lender-at-none.entries ≡ c.args.self.now = ap (λ m. m.entries) c.get_mut.follows.holds-at-none ∙ c.self.view_is in
    ap (λ es. live g.K.Ord.cmp es) same ∙ sym (live_absent g.met.K.Ord.total g.met.K.Key.exact c.args.self.now c.args.key none)

pub returns-clause-value : goal.returns-clause-value
returns-clause-value g c =
    c.take.ensures.value
    ∙ ap option_flatten (c.in-Some.ensures.value ∙ sym (find-lookup g.met.K.Ord.total c.self.inside.slots.entries c.args.key) ∙ ap (λ es. fin.find g.K.Ord.cmp c.args.key es) c.self.view_is)
    ∙ sym (get-live g.met.K.Ord.total c.args.self.now c.args.key)

pub returns-clause-taken : goal.returns-clause-taken
returns-clause-taken g c =
    let written = c.get_mut.follows.holds c.take.new.self in
    let updates = (written.3 (subst IsSome c.in-Some.ensures.value refl)).0 in
    let is : IsWritten g.K.Ord.cmp c.args.self.now (c.get_mut.follows.lender c.take.new.self).entries c.args.key None =
    subst (λ slot. IsWritten g.K.Ord.cmp c.args.self.now (c.get_mut.follows.lender c.take.new.self).entries c.args.key slot) c.take.ensures.after
    (rw (← c.self.view_is) (written_by g.met.K.Ord.total c.self.inside.slots.entries (c.get_mut.follows.lender c.take.new.self).entries c.args.key c.take.new.self updates)) in
    live_written g.met.K.Ord.total g.met.K.Key.exact c.args.self.now _ c.args.key None is

pub returns-clause-keeps : goal.returns-clause-keeps
returns-clause-keeps g c =
    let written = c.get_mut.follows.holds c.take.new.self in
    let updates = (written.3 (subst IsSome c.in-Some.ensures.value refl)).0 in
    let is : IsWritten g.K.Ord.cmp c.args.self.now (c.get_mut.follows.lender c.take.new.self).entries c.args.key None =
    subst (λ slot. IsWritten g.K.Ord.cmp c.args.self.now (c.get_mut.follows.lender c.take.new.self).entries c.args.key slot) c.take.ensures.after
    (rw (← c.self.view_is) (written_by g.met.K.Ord.total c.self.inside.slots.entries (c.get_mut.follows.lender c.take.new.self).entries c.args.key c.take.new.self updates)) in
    keeps_written c.args.self.now _ c.args.key None is
