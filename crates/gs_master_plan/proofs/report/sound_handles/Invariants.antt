use Rattle.std.proofs.Common.{◌≡◌, ◌++◌, drop}
use Rattle.gs_master_state.specs.inner.Surveying.{sound_handles}
use Rattle.gs_master_plan.proofs.report.sound_handles.Given as goal

abbrev pub invariant-loop-replica : goal.invariant-loop-replica
invariant-loop-replica l = l.sound.items ++ sound_handles (drop l.replica-index l.reported) ≡ sound_handles l.reported
