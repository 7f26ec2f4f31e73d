use Rattle.std.proofs.Common.{ap, sym, ◌∙◌}
use Rattle.std.specs.FinMap as fin
use Rattle.std.specs.Option.{option_flatten}
use Rattle.gs_base_table.proofs.Lives.{find-lookup, get-live, live_removed, room_removed}
use Rattle.gs_base_table.proofs.table.Table.remove.Goals as goal

pub returns-clause-removed : goal.returns-clause-removed
returns-clause-removed g c = rw (← c.self.view_is) (live_removed g.met.K.Ord.total g.met.K.Key.exact _ _ c.args.key c.remove.ensures.updates.0)

pub returns-clause-room : goal.returns-clause-room
returns-clause-room g c = rw (← c.self.view_is) (room_removed g.met.K.Ord.total _ _ c.args.key c.remove.ensures.updates.0)

pub returns-clause-value : goal.returns-clause-value
returns-clause-value g c =
    c.flatten.ensures ∙ ap option_flatten (c.remove.ensures.value ∙ sym (find-lookup g.met.K.Ord.total c.self.inside.slots.entries c.args.key) ∙ ap (λ es. fin.find g.K.Ord.cmp c.args.key es) c.self.view_is)
    ∙ sym (get-live g.met.K.Ord.total c.args.self.now c.args.key)
