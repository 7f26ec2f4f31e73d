use Rattle.std.proofs.Common.{◌≡◌, take}
use Rattle.gs_master_spec.specs.Volatile.{without_pending}
use Rattle.gs_master_state.proofs.tracked.others.Given as goal

abbrev pub invariant-loop-one : goal.invariant-loop-one
invariant-loop-one l = l.others.items ≡ without_pending (take l.one-index l.pending) l.req
