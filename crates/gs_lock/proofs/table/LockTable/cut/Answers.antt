use Rattle.std.proofs.Common.{◌<◌, arith, length}
use Rattle.gs_lock.proofs.Indexed.{last_indexed, cut_indexed, cut_front}
use Rattle.gs_lock.proofs.table.LockTable.cut.Goals as goal

pub subtract-requires : goal.subtract-requires
subtract-requires c = last_indexed _ c.pop.new.self.items c.in-Some.lock _ c.in-Some.ensures.items c.loop-self.invariant.1

pub loop-self-preserved-in-Some : goal.loop-self-preserved-in-Some
loop-self-preserved-in-Some c =
    let below : c.args.len < length c.loop-self.self-inside.locks.items = omega arith in (
      cut_front c.args.len _ c.pop.new.self.items _ c.in-Some.lock c.in-Some.ensures.items below c.loop-self.invariant.0,
      cut_indexed _ c.pop.new.self.items c.in-Some.lock _ _ c.in-Some.ensures.items c.loop-self.invariant.1 c.subtract.ensures.adds c.subtract.ensures.tight,
    )
