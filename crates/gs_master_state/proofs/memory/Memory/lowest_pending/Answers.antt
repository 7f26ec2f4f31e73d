use Rattle.gs_master_state.proofs.Lowered.{none_left}
use Rattle.gs_master_state.proofs.memory.Memory.lowest_pending.Goals as goal

pub returns : goal.returns
returns c = none_left c.args.self.now.pending.items c.loop-left.left _ c.loop-left-test.false c.loop-left.invariant.1
