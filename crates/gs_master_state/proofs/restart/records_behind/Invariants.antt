use Rattle.std.proofs.Common.{◌≡◌, ◌≤◌, drop, map}
use Rattle.gs_master_record.specs.Plain.{plain}
use Rattle.gs_master_spec.specs.Applied.{counted_behind, records_behind}
use Rattle.gs_master_state.proofs.restart.records_behind.Given as goal

abbrev pub invariant-loop-entry : goal.invariant-loop-entry
invariant-loop-entry l = record {
  rest : counted_behind l.behind (map plain (drop l.entry-index l.entries)) ≡ records_behind (map plain l.entries);
  below : l.behind ≤ l.entry-index;
}
