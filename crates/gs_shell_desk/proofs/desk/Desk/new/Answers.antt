use Rattle.std.proofs.Common.{subst, ap, ◌∙◌}
use Rattle.gs_shell_desk.specs.Starting.{begun}
use Rattle.gs_shell_desk.specs.Ways.{SendsAll, way_of}
use Rattle.gs_shell_desk.proofs.desk.Desk.new.Goals as goal

pub returns-clause-starts : goal.returns-clause-starts
returns-clause-starts g c = record {
  place = c.in_ok-nodes.nodes.master;
  turn = c.in_ok-nodes.turn;
  mid = way_of c.send_all.new.self;
  opens = c.in_ok-nodes.ensures.master;
  sends = subst (λ w. SendsAll c.in_ok-nodes.turn.sent.items w (way_of c.send_all.new.self)) (c.begin-wire.ensures ∙ ap begun c.in_ok-nodes.ensures.nodes) c.send_all.ensures;
  delivers = c.deliver_all.ensures;
  client = c.new-2.ensures;
}
