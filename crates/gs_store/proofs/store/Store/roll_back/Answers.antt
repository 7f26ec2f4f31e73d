use Rattle.std.proofs.Common.{arith}
use Rattle.gs_base.specs.declared.epoch.EpochEnd.TheVariants.{Rollback}
use Rattle.gs_store.proofs.Learned.{as_many}
use Rattle.gs_store.proofs.store.Store.roll_back.Goals as goal

pub name_each-requires-clause-room : goal.name_each-requires-clause-room
name_each-requires-clause-room c =
    let room = c.in_ok-names.ensures.room in
    let same = as_many c.args.epoch Rollback c.args.self.now c.learn.new.self c.in_ok-learn.ensures.edit in
    omega arith
