use Rattle.std.proofs.Common.{◌≡◌, map, take}
use Rattle.gs_master_record.specs.Plain.{plain_node}
use Rattle.gs_master_state.proofs.inverse.copied_entries.Given as goal

abbrev pub invariant-loop-entry : goal.invariant-loop-entry
invariant-loop-entry l = map plain_node l.copies.items ≡ map plain_node (take l.entry-index l.entries)
