use Rattle.std.proofs.Common.{◌∙◌}
use Rattle.gs_server.proofs.Rooms.{gives_more, without_next}
use Rattle.gs_server.proofs.leases.spend_each.Goals as goal

pub loop-handle-preserved : goal.loop-handle-preserved
loop-handle-preserved c = record {
  spent = without_next _ _ _ _ _ c.loop-handle-test.true c.handle-item.is c.spend.ensures.spent ∙ c.loop-handle.invariant.spent;
  room = gives_more _ _ _ _ _ _ c.loop-handle-test.true c.handle-item.is c.loop-handle.invariant.room c.spend.ensures.room;
}
