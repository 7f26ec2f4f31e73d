use Rattle.std.proofs.Common.{rules, ◌≡◌, ◌∙◌, Err, IfErr, ap, subst, sym}
use Rattle.gs_nodes.specs.Crashing.{SurvivesUnopened}
use Rattle.gs_nodes.specs.Happenings.{WhyNotBegun}
use Rattle.gs_nodes.proofs.Surviving.{untouched}
use Rattle.gs_msg.specs.declared.node.NodeId.TheVariants as ids
use Rattle.gs_world.specs.Crashing.{leaves_of, left_of, moment_of}
use Rattle.gs_world.specs.Histories.{failures_of, seen_of}
use Rattle.gs_world.specs.Sent.{IsPosted, Sent, none_sent}
use Rattle.gs_world.proofs.world.World.over.Goals as goal

pub returns-clause-begins : goal.returns-clause-begins
returns-clause-begins g c =
    record {
      place = c.in_ok-nodes.nodes.master;
      turn = c.in_ok-nodes.turn;
      opens = c.in_ok-nodes.ensures.master;
      nodes = c.in_ok-nodes.ensures.nodes;
      sent =
          subst (λ (s : Sent). IsPosted (record { 0 = 0 }) ids.Master c.in_ok-nodes.turn.sent.items s c.post.new.self)
          (c.in-Ok.ensures ∙ ap (none_sent c.args.config.servers) c.from.ensures) c.post.ensures;
    }

pub returns-in_err-nodes-clause-refused : goal.returns-in_err-nodes-clause-refused
returns-in_err-nodes-clause-refused g c =
    let e : c.from_residual.result ≡ Err c.in_err-nodes.field-0.0 = search rules in
    subst (λ r. IfErr r (WhyNotBegun (seen_of g.D.Disk.seen) (failures_of g.D.Disk.failures) c.args.config c.args.disks)) (sym e) c.in_err-nodes.ensures.refused

pub returns-in_err-nodes-clause-survives_refused : goal.returns-in_err-nodes-clause-survives_refused
returns-in_err-nodes-clause-survives_refused g c =
    let e : c.from_residual.result ≡ Err c.in_err-nodes.field-0.0 = search rules in
    subst
    (λ r. IfErr r (λ u. SurvivesUnopened (seen_of g.D.Disk.seen) (leaves_of g.D.Disk.may_leave) (moment_of g.D.Disk.moment) (left_of g.D.Disk.left_since) c.args.disks u.first u.second))
    (sym e) c.in_err-nodes.ensures.survives_refused

pub returns-in_default-clause-survives_refused : goal.returns-in_default-clause-survives_refused
returns-in_default-clause-survives_refused g c =
    let d = g.D.Disk in
    untouched (seen_of d.seen) (leaves_of d.may_leave) (moment_of d.moment) (left_of d.left_since) (λ disk. g.met.D.Disk.only_now disk.disk) c.args.disks.0 c.args.disks.1
