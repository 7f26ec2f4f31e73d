use Rattle.std.proofs.Common.{ap, sym, ◌∙◌}
use Rattle.std.specs.Prelude.{is_some}
use Rattle.std.specs.FinMap as fin
use Rattle.std.specs.Option.{option_flatten}
use Rattle.gs_base_table.specs.Slots.{HasRoom}
use Rattle.gs_base_table.proofs.Lives.{find-lookup, get-live, on_some}
use Rattle.gs_base_table.proofs.table.Table.get.Goals as goal

pub returns-in-Some-clause-value : goal.returns-in-Some-clause-value
returns-in-Some-clause-value g c =
    c.as_ref.ensures.value
    ∙ ap option_flatten (c.in-Some.ensures.value ∙ sym (find-lookup g.met.K.Ord.total c.self.inside.slots.entries c.args.key) ∙ ap (λ es. fin.find g.K.Ord.cmp c.args.key es) c.self.view_is)
    ∙ sym (get-live g.met.K.Ord.total c.args.self.now c.args.key)

pub returns-in-None-clause-value : goal.returns-in-None-clause-value
returns-in-None-clause-value g c =
    ap option_flatten (c.in-None.ensures.value ∙ sym (find-lookup g.met.K.Ord.total c.self.inside.slots.entries c.args.key) ∙ ap (λ es. fin.find g.K.Ord.cmp c.args.key es) c.self.view_is)
    ∙ sym (get-live g.met.K.Ord.total c.args.self.now c.args.key)

pub returns-in-Some-clause-room : goal.returns-in-Some-clause-room
returns-in-Some-clause-room g c =
    let room : HasRoom g.K.Ord.cmp c.args.self.now c.args.key = record {
      slot = ap is_some (sym (ap (λ es. fin.find g.K.Ord.cmp c.args.key es) c.self.view_is) ∙ find-lookup g.met.K.Ord.total c.self.inside.slots.entries c.args.key ∙ sym c.in-Some.ensures.value);
    } in
    on_some c.as_ref.result _ room
