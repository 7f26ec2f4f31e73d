use Rattle.std.proofs.Common.{ap, sym, ◌∙◌}
use Rattle.std.specs.FinMap as fin
use Rattle.std.specs.Option.{option_flatten}
use Rattle.gs_base_table.proofs.Lives.{find-lookup, written_by}
use Rattle.gs_base_table.proofs.table.Table.write.Goals as goal

pub returns-in-Ok-Some-clause-ok : goal.returns-in-Ok-Some-clause-ok
returns-in-Ok-Some-clause-ok g c = rw (← c.self.view_is) (written_by g.met.K.Ord.total c.self.inside.slots.entries c.insert.new.self.entries c.args.key c.args.value c.in-Ok-Some.ensures.updates.0)

pub returns-in-Ok-None-clause-ok : goal.returns-in-Ok-None-clause-ok
returns-in-Ok-None-clause-ok g c = rw (← c.self.view_is) (written_by g.met.K.Ord.total c.self.inside.slots.entries c.insert.new.self.entries c.args.key c.args.value c.in-Ok-None.ensures.updates.0)

pub returns-in-Ok-Some-clause-was : goal.returns-in-Ok-Some-clause-was
returns-in-Ok-Some-clause-was g c = ap option_flatten (sym c.in-Ok-Some.field-0-is ∙ c.in-Ok-Some.ensures.old ∙ sym (find-lookup g.met.K.Ord.total c.self.inside.slots.entries c.args.key) ∙ ap (λ es. fin.find g.K.Ord.cmp c.args.key es) c.self.view_is)

pub returns-in-Ok-None-clause-was : goal.returns-in-Ok-None-clause-was
returns-in-Ok-None-clause-was g c = ap option_flatten (sym c.in-Ok-None.field-0-is ∙ c.in-Ok-None.ensures.old ∙ sym (find-lookup g.met.K.Ord.total c.self.inside.slots.entries c.args.key) ∙ ap (λ es. fin.find g.K.Ord.cmp c.args.key es) c.self.view_is)

pub returns-clause-absent : goal.returns-clause-absent
returns-clause-absent g c = sym (ap (λ es. fin.find g.K.Ord.cmp c.args.key es) c.self.view_is) ∙ find-lookup g.met.K.Ord.total c.self.inside.slots.entries c.args.key ∙ c.in-Err.ensures.absent
