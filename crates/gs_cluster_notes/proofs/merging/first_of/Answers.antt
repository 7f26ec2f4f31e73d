use Rattle.std.proofs.Common.{arith}
use Rattle.gs_cluster_notes.proofs.Firsts.{one_more}
use Rattle.gs_cluster_notes.proofs.merging.first_of.Goals as goal

pub loop-at-preserved : goal.loop-at-preserved
loop-at-preserved c =
    let had = c.loop-at.invariant.0 in
    let some = c.loop-at-test.true in (
      omega arith,
      one_more c.args.lists.now.items _ c.loop-at.at c.index.result.now c.loop-at.first c.sooner-first.result (omega arith) (omega arith) c.index.ensures c.loop-at.invariant.1 c.sooner-first.ensures,
    )
