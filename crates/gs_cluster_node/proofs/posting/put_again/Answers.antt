use Rattle.std.proofs.Common.{◌≡◌, sym, ◌∙◌, subst}
use Rattle.std.proofs.lemmas.Option.{slice_get_read}
use Rattle.gs_msg.specs.declared.node.NodeId.{NodeId}
use Rattle.gs_cluster_node.specs.Nodes.{AllListed}
use Rattle.gs_cluster_node.specs.inner.Acting.{Routes}
use Rattle.gs_cluster_node.proofs.posting.put_again.Goals as goal

pub put_copy-requires-clause-listed : goal.put_copy-requires-clause-listed
put_copy-requires-clause-listed g c =
    let at = slice_get_read c.args.asked.now.items c.len-at-end.result c.loop-at.at c.index.result.now (c.len-at-end.ensures ∙ c.args.asked.now.ok.0) c.loop-at-test.true c.index.ensures in
    (c.requires.own c.index.result.now (c.loop-at.at, at)).1

pub put_copy-requires-clause-all : goal.put_copy-requires-clause-all
put_copy-requires-clause-all g c =
    let at = slice_get_read c.args.asked.now.items c.len-at-end.result c.loop-at.at c.index.result.now (c.len-at-end.ensures ∙ c.args.asked.now.ok.0) c.loop-at-test.true c.index.ensures in
    let mine : c.index.result.now.from ≡ c.args.me.now = (c.requires.own c.index.result.now (c.loop-at.at, at)).0 in
    subst (λ (n : NodeId). AllListed n c.args.log.now.sent c.loop-at.ways.items) (sym mine) c.loop-at.invariant.0

pub loop-at-preserved : goal.loop-at-preserved
loop-at-preserved g c =
    let at = slice_get_read c.args.asked.now.items c.len-at-end.result c.loop-at.at c.index.result.now (c.len-at-end.ensures ∙ c.args.asked.now.ok.0) c.loop-at-test.true c.index.ensures in
    let mine : c.index.result.now.from ≡ c.args.me.now = (c.requires.own c.index.result.now (c.loop-at.at, at)).0 in
    let here = subst (λ (n : NodeId). Routes n c.args.log.now.sent c.loop-at.ways.items c.put_copy.new.ways.items) mine c.put_copy.ensures in
    (here.0, here.1 ∙ c.loop-at.invariant.1)
