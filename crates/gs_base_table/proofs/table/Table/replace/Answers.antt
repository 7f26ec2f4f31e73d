use Rattle.std.proofs.Common.{Some, sym, ◌∙◌}
use Rattle.gs_base_table.proofs.Lives.{get-live, live_written}
use Rattle.gs_base_table.proofs.table.Table.replace.Goals as goal

pub returns-clause-value : goal.returns-clause-value
returns-clause-value g c = c.swap.ensures.was ∙ sym (get-live g.met.K.Ord.total c.args.self.now c.args.key)

pub returns-clause-put : goal.returns-clause-put
returns-clause-put g c = live_written g.met.K.Ord.total g.met.K.Key.exact _ _ c.args.key (Some c.args.value) c.swap.ensures.written
