use Rattle.std.proofs.Common.{ap, sym, subst, refl, ◌∙◌, ◌≡◌, None, IsSome}
use Rattle.std.specs.FinMap as fin
use Rattle.std.specs.Option.{option_flatten}
use Rattle.gs_base_table.specs.Slots.{IsWritten}
use Rattle.gs_base_table.proofs.Lives.{find-lookup, found_slot, written_by}
use Rattle.gs_base_table.proofs.table.Table.swap.Goals as goal

pub returns-in_default-clause-written : goal.returns-in_default-clause-written
returns-in_default-clause-written g c =
    let none : fin.find g.K.Ord.cmp c.args.key c.args.self.now ≡ None = sym (ap (λ es. fin.find g.K.Ord.cmp c.args.key es) c.self.view_is) ∙ find-lookup g.met.K.Ord.total c.self.inside.slots.entries c.args.key ∙ sym c.in_default.ensures.value in
    absurd (found_slot c.args.self.now c.args.key c.requires none)

pub returns-in_default-clause-was : goal.returns-in_default-clause-was
returns-in_default-clause-was g c = ap option_flatten (c.in_default.ensures.value ∙ sym (find-lookup g.met.K.Ord.total c.self.inside.slots.entries c.args.key) ∙ ap (λ es. fin.find g.K.Ord.cmp c.args.key es) c.self.view_is)

pub returns-clause-written : goal.returns-clause-written
returns-clause-written g c =
    let written = c.get_mut.follows.holds c.replace.new.dest in
    let updates = (written.3 (subst IsSome c.in-Some.ensures.value refl)).0 in
    subst (λ slot. IsWritten g.K.Ord.cmp c.args.self.now (c.get_mut.follows.lender c.replace.new.dest).entries c.args.key slot) c.replace.ensures.after
    (rw (← c.self.view_is) (written_by g.met.K.Ord.total c.self.inside.slots.entries (c.get_mut.follows.lender c.replace.new.dest).entries c.args.key c.replace.new.dest updates))

pub returns-clause-was : goal.returns-clause-was
returns-clause-was g c =
    c.replace.ensures.value
    ∙ ap option_flatten (c.in-Some.ensures.value ∙ sym (find-lookup g.met.K.Ord.total c.self.inside.slots.entries c.args.key) ∙ ap (λ es. fin.find g.K.Ord.cmp c.args.key es) c.self.view_is)
