use Rattle.std.proofs.Common.{sym, ◌∙◌}
use Rattle.gs_base_table.proofs.Lives.{nothing_at, remove_absent}
use Rattle.gs_base_table.proofs.table.Table.release.Goals as goal

pub returns-then-is_free-clause-same : goal.returns-then-is_free-clause-same
returns-then-is_free-clause-same g c =
    c.remove-nothing.ensures.removed ∙ remove_absent g.met.K.Ord.total g.met.K.Key.exact _ c.args.key (nothing_at _ (sym c.is_free.ensures ∙ c.if-is_free.true))
