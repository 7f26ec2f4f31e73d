use Rattle.std.proofs.Common.{◌≡◌, drop, map}
use Rattle.gs_master_record.specs.Plain.{plain}
use Rattle.gs_master_spec.specs.Applied.{replayed}
use Rattle.gs_master_spec.specs.Durable.{start}
use Rattle.gs_master_state.specs.inner.Recorded.{durable_of}
use Rattle.gs_master_state.proofs.recorded.Recorded.replayed.Given as goal

abbrev pub invariant-loop-entry : goal.invariant-loop-entry
invariant-loop-entry l = replayed (durable_of l.recorded) (map plain (drop l.entry-index l.entries)) ≡ replayed start (map plain l.entries)
