use Rattle.std.proofs.Common.{sym, ◌∙◌}
use Rattle.gs_cluster_node.proofs.Stepping.{acts_counts, acts_kept, acts_listed, acts_own, acts_place}
use Rattle.gs_cluster_node.proofs.node.go.Goals as goal

pub remember-requires-clause-listed : goal.remember-requires-clause-listed
remember-requires-clause-listed g c = acts_place g.C.Core.Does c.args.me.now _ _ _ _ _ _ _ _ _ _ _ c.args.diary.now.count c.act-out.ensures c.requires.agrees.counts

pub remember-requires-clause-own : goal.remember-requires-clause-own
remember-requires-clause-own g c = acts_own g.C.Core.Does c.args.me.now _ _ _ _ _ _ _ _ _ _ _ c.args.diary.now.asked.items c.act-out.ensures c.requires.agrees.own

pub put_all-requires-clause-listed : goal.put_all-requires-clause-listed
put_all-requires-clause-listed g c = acts_place g.C.Core.Does c.args.me.now _ _ _ _ _ _ _ _ _ _ _ c.args.diary.now.count c.act-out.ensures c.requires.agrees.counts

pub put_all-requires-clause-all : goal.put_all-requires-clause-all
put_all-requires-clause-all g c = acts_listed g.C.Core.Does c.args.me.now _ _ _ _ _ _ _ _ _ _ _ c.args.ways.now.items c.act-out.ensures c.requires.listed

pub put_all-requires-clause-own : goal.put_all-requires-clause-own
put_all-requires-clause-own g c = acts_own g.C.Core.Does c.args.me.now _ _ _ _ _ _ _ _ _ _ _ c.args.diary.now.waiting.items c.act-out.ensures c.requires.agrees.waits

pub returns-clause-agrees : goal.returns-clause-agrees
returns-clause-agrees g c = record {
  counts = acts_counts g.C.Core.Does c.args.me.now _ _ _ _ _ _ _ _ _ _ _ c.args.diary.now.count c.len.result c.saturating_add.result c.act-out.ensures c.requires.agrees.counts (c.len.ensures ∙ c.act-out.result.out.ok.0) c.saturating_add.ensures;
  waits = c.put_all.ensures.own;
  own = c.remember.ensures;
  keeps = acts_kept g.C.Core.Does c.args.me.now _ _ _ _ _ _ _ _ _ _ _ c.dated-dated.result c.args.diary.now.notes c.note.new.self c.act-out.ensures c.dated-dated.ensures
      (λ e es ls is out keeps. c.note.ensures e es ls is (out ∙ sym c.deref.ensures.value) keeps) c.requires.agrees.keeps;
}
