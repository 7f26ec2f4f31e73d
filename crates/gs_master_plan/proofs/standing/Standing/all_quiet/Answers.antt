use Rattle.std.proofs.Common.{refl}
use Rattle.std.specs.Ordering.{nat_cmp}
use Rattle.gs_base_table.specs.Slots.{live}
use Rattle.gs_master_plan.specs.inner.Planning.{state_of}
use Rattle.gs_master_plan.proofs.Quieting.{tells_quiet}
use Rattle.gs_master_plan.proofs.standing.Standing.all_quiet.Goals as goal

pub returns : goal.returns
returns c =
    tells_quiet (live nat_cmp c.args.self.now.recorded.now.leases) (state_of c.args.self.now) refl c.all_quiet.ensures.settled c.all_quiet.result c.all_quiet.ensures.same
    c.all_quiet.ensures.quiet
