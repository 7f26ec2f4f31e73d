use Rattle.std.proofs.Common.{◌≡◌, Some, subst, sym}
use Rattle.std.specs.Prelude.{slice_get}
use Rattle.gs_msg.specs.declared.node.NodeId.{NodeId}
use Rattle.gs_msg.specs.declared.sent.Sent.{Sent}
use Rattle.gs_cluster_history.specs.Histories.{listing}
use Rattle.gs_cluster_node.specs.Nodes.{AllListed}
use Rattle.gs_cluster_node.proofs.Listing.{own_behind, own_first, routed_for}
use Rattle.gs_cluster_node.proofs.posting.put_first.Goals as goal

pub put_listed-requires-clause-all : goal.put_listed-requires-clause-all
put_listed-requires-clause-all g c =
    let stands = own_first c.args.me.now c.args.log.now.sent c.args.waiting.now.items c.pop_front.new.self.items c.in-Some.sent c.in-Some.ensures.items c.requires.own in
    subst (λ (n : NodeId). AllListed n c.args.log.now.sent c.args.ways.now.items) (sym stands.0) c.requires.all

pub wait_first-requires-clause-own : goal.wait_first-requires-clause-own
wait_first-requires-clause-own g c = own_behind c.args.me.now c.args.log.now.sent c.args.waiting.now.items c.pop_front.new.self.items c.in-Some.sent c.in-Some.ensures.items c.requires.own

pub wait_first-requires-clause-stands : goal.wait_first-requires-clause-stands
wait_first-requires-clause-stands g c =
    let stands = own_first c.args.me.now c.args.log.now.sent c.args.waiting.now.items c.pop_front.new.self.items c.in-Some.sent c.in-Some.ensures.items c.requires.own in
    subst (λ (z : Sent). (z.from ≡ c.args.me.now) × (slice_get c.args.log.now.sent z.place ≡ Some (listing z))) (sym c.in-Some-put_listed.ensures.back) stands

pub returns-in-Some-put_listed-clause-routes : goal.returns-in-Some-put_listed-clause-routes
returns-in-Some-put_listed-clause-routes g c =
    let stands = own_first c.args.me.now c.args.log.now.sent c.args.waiting.now.items c.pop_front.new.self.items c.in-Some.sent c.in-Some.ensures.items c.requires.own in
    routed_for c.args.me.now c.args.log.now.sent c.in-Some.sent c.args.ways.now.items c.put_listed.new.ways.items stands.0 c.put_listed.ensures.routes

pub returns-in-None-clause-routes : goal.returns-in-None-clause-routes
returns-in-None-clause-routes g c =
    let stands = own_first c.args.me.now c.args.log.now.sent c.args.waiting.now.items c.pop_front.new.self.items c.in-Some.sent c.in-Some.ensures.items c.requires.own in
    routed_for c.args.me.now c.args.log.now.sent c.in-Some.sent c.args.ways.now.items c.put_listed.new.ways.items stands.0 c.put_listed.ensures.routes

pub returns-in-None-clause-own : goal.returns-in-None-clause-own
returns-in-None-clause-own g c = own_behind c.args.me.now c.args.log.now.sent c.args.waiting.now.items c.pop_front.new.self.items c.in-Some.sent c.in-Some.ensures.items c.requires.own
