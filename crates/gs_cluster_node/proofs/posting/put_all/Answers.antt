use Rattle.std.proofs.Common.{◌<◌, ◌∙◌, subst, arith}
use Rattle.gs_cluster_node.specs.Nodes.{last_clock}
use Rattle.gs_cluster_node.specs.inner.Acting.{AreAt}
use Rattle.gs_cluster_node.proofs.Listing.{at_first, at_others}
use Rattle.gs_cluster_node.proofs.posting.put_all.Goals as goal

pub post-requires-clause-stands : goal.post-requires-clause-stands
post-requires-clause-stands g c =
    let some = c.if-place.false in
    let fits = c.loop-message.auto.place-fits in
    let below : c.loop-message.place < last_clock = omega arith in (
      c.same.ensures,
      at_first c.args.log.now.sent c.loop-message.place c.args.clock c.args.moment c.in-Some.message c.next.new.self.rest.items
          (subst (AreAt c.args.log.now.sent c.loop-message.place c.args.clock c.args.moment) c.in-Some.ensures.steps.0 (c.loop-message.invariant.1 below)),
    )

pub post-requires-clause-all : goal.post-requires-clause-all
post-requires-clause-all g c = c.loop-message.invariant.0.0

pub post-requires-clause-own : goal.post-requires-clause-own
post-requires-clause-own g c = c.loop-message.invariant.2

pub loop-message-preserved : goal.loop-message-preserved
loop-message-preserved g c = (
  (c.post.ensures.routes.0, c.post.ensures.routes.1 ∙ c.loop-message.invariant.0.1),
  λ below.
      let here : c.loop-message.place < last_clock = omega arith in
      at_others c.args.log.now.sent c.loop-message.place c.args.clock c.args.moment c.in-Some.message c.next.new.self.rest.items
      (subst (AreAt c.args.log.now.sent c.loop-message.place c.args.clock c.args.moment) c.in-Some.ensures.steps.0 (c.loop-message.invariant.1 here)),
  c.post.ensures.own,
)
