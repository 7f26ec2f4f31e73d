use Rattle.std.proofs.Common.{◌∙◌, ap, subst, sym}
use Rattle.gs_msg.specs.declared.node.NodeId.{NodeId}
use Rattle.gs_nodes.specs.Nodes.{nodes_of}
use Rattle.gs_world.specs.Crashing.{SurvivesEvent, leaves_of, left_of, moment_of}
use Rattle.gs_world.specs.Histories.{Tells, arms, failures_of, history_of, seen_of, told}
use Rattle.gs_world.specs.Sent.{sent_by}
use Rattle.gs_world.proofs.Telling.{told_of}
use Rattle.gs_world.proofs.world.World.step.Goals as goal

pub returns-clause-outcome : goal.returns-clause-outcome
returns-clause-outcome g c =
    told_of (seen_of g.D.Disk.seen) (failures_of g.D.Disk.failures) arms c.args.event (history_of c.args.self.now) c.at_node-by.result.0 (told c.at_node-by.result.1) (nodes_of c.at_node-by.new.self.nodes)
    c.at_node-by.new.self.sent c.tell-said.result c.count-first.result c.count-end.result (history_of c.tell-said.new.self) c.at_node-by.ensures.at c.at_node-by.ensures.sent
    (subst (λ (n : NodeId). Tells (seen_of g.D.Disk.seen) (failures_of g.D.Disk.failures) arms c.args.event.moment n (told c.at_node-by.result.1) c.at_node-by.new.self.sent c.tell-said.result c.tell-said.new.self.sent)
    c.same-sender.ensures c.tell-said.ensures.tells)
    (ap nodes_of c.tell-said.ensures.nodes)
    (c.count-first.ensures ∙ ap (λ (n : NodeId). sent_by c.at_node-by.new.self.sent n) c.same-before.ensures)
    (c.count-end.ensures ∙ ap (λ (n : NodeId). sent_by c.tell-said.new.self.sent n) c.same-behind.ensures)

pub returns-clause-survives : goal.returns-clause-survives
returns-clause-survives g c =
    subst
    (λ nodes. SurvivesEvent (seen_of g.D.Disk.seen) (leaves_of g.D.Disk.may_leave) (moment_of g.D.Disk.moment) (left_of g.D.Disk.left_since) c.args.event.happening c.args.self.now.nodes.master nodes.master)
    (sym c.tell-said.ensures.nodes) c.at_node-by.ensures.survives
