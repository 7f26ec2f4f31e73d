use Rattle.std.proofs.Common.{◌≡◌, map, drop}
use Rattle.gs_master_record.specs.Order.{rises_from, rises}
use Rattle.gs_master_record.proofs.order.rises.Given as goal

-- what is left rises behind the last one where the whole rises
abbrev pub invariant-loop-item : goal.invariant-loop-item
invariant-loop-item g l = rises_from g.T.Ordered.before (g.T.Ordered.plain l.last) (map g.T.Ordered.plain (drop l.item-index l.rest)) ≡ rises g.T.Ordered.before (map g.T.Ordered.plain l.fn.items)
