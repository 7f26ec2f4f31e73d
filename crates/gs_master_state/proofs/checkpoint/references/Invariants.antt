use Rattle.std.proofs.Common.{◌≡◌, map, take}
use Rattle.gs_master_spec.specs.Whole.{reference_of}
use Rattle.gs_master_state.proofs.checkpoint.references.Given as goal

abbrev pub invariant-loop-entry : goal.invariant-loop-entry
invariant-loop-entry l = l.references.items ≡ map reference_of (take l.entry-index l.entry-items)
