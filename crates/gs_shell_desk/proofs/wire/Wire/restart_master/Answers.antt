use Rattle.std.proofs.Common.{subst}
use Rattle.gs_shell_desk.specs.Ways.{Ends, way_of, with_nodes}
use Rattle.gs_shell_desk.proofs.wire.Wire.restart_master.Goals as goal

pub returns : goal.returns
returns g c = record {
  place = c.restart_master-done.new.self.master;
  turn = c.restart_master-done.result;
  mid = way_of c.end-said.new.self;
  opens = c.restart_master-done.ensures.master;
  ends = subst (λ nodes. Ends c.restart_master-done.result (with_nodes nodes (way_of c.args.self.now)) c.end-said.result (way_of c.end-said.new.self)) c.restart_master-done.ensures.others c.end-said.ensures;
  delivers = c.deliver_all.ensures;
}
