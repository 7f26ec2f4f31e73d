use Rattle.gs_base_table.proofs.Lives.{live_reserved, has_slot}
use Rattle.gs_base_table.proofs.table.Table.reserve.Goals as goal

pub returns-clause-same : goal.returns-clause-same
returns-clause-same g c = live_reserved g.met.K.Ord.total g.met.K.Key.exact _ _ c.args.key (has_slot _ _ c.has.ensures c.if-has.false) c.in_ok-write.ensures.ok
